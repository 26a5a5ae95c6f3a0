-- What a store holds, and which segments it lists for a file.
use Rattle.std.specs.Prelude.{◌≡◌, ◌≢◌, ℕ, ◌<◌, Bool, List, [], ◌∷◌, ◌++◌, filter, not, Option, Some, None, if◌then◌else◌, refl}
use Rattle.std.specs.Option.{option_map, option_and_then, is_some}
use Rattle.std.specs.List.{AllByRecursion, fold}
use Rattle.std.specs.FinMap.{FinMap, code, get, insert, remove}
use Rattle.std.specs.FinMap as finmap
use Rattle.std.specs.Coded.{Coded, code_by, coded×, coded_list, coded_option, coded_ℕ}
use base.Stored.{coded_unit}
use Rattle.xet_types.specs.Names.{hash_cmp, same_hash, xorb_name}
use Rattle.xet_xorb.specs.ChunkLists.{IsWellFormed, object_of}
use Rattle.xet_shard.specs.declared.listing.Segment.{Segment}
use Rattle.xet_shard.specs.Values.{Listing}
use Rattle.xet_shard.specs.Listings.{ShardModel}
use Rattle.xet_shard.specs.Canonical.{shard_name}
use Rattle.xet_shard.specs.Eligible.{eligible_of}
use Rattle.xet_shard.specs.contracts.listing.Shard.{the_row}
use Rattle.xet_plan.specs.Places.{Known}
use Rattle.xet_plan.specs.FileBytes.{Content}

-- a xorb's chunks
abbrev pub Chunks : Type 0
Chunks = List (List ℕ)

-- a finite set of hashes
abbrev pub Hashes : Type 0
Hashes = FinMap hash_cmp (Unit {0})

-- the chunk lists of the stored xorbs by hash; the canonical shards in order of acceptance; the hidden files; for each chunk that
-- has an entry the name of a shard; the age in milliseconds above which a link is expired; the most runs that a link of version 2
-- brings; and for how many seconds an answer to a query for deduplication is good, where that is set
pub record StoreModel : Type 0 where
  pub xorbs : FinMap hash_cmp Chunks
  pub shards : List ShardModel
  pub hidden : Hashes
  pub dedup : FinMap hash_cmp (List ℕ)
  pub expiration : ℕ
  pub max_ranges : ℕ
  pub dedup_seconds : Option ℕ

abbrev pub store_code : Coded StoreModel
store_code =
    code_by (FinMap hash_cmp Chunks × (List ShardModel × (Hashes × (FinMap hash_cmp (List ℕ) × (ℕ × (ℕ × Option ℕ))))))
    (coded× (code (coded_list coded_ℕ) (coded_list (coded_list coded_ℕ))) (coded× (coded_list the_row.coded) (coded× (code (coded_list coded_ℕ) coded_unit) (coded× (code (coded_list coded_ℕ) (coded_list coded_ℕ)) (coded× coded_ℕ (coded× coded_ℕ (coded_option coded_ℕ)))))))
    (λ m. (m.xorbs, (m.shards, (m.hidden, (m.dedup, (m.expiration, (m.max_ranges, m.dedup_seconds)))))))
    (λ p. record { xorbs = p.0; shards = p.1.0; hidden = p.1.1.0; dedup = p.1.1.1.0; expiration = p.1.1.1.1.0; max_ranges = p.1.1.1.1.1.0; dedup_seconds = p.1.1.1.1.1.1 }) (λ _. refl)

-- the expiration that is set at first: links don't expire
abbrev pub never : ℕ
never = 18446744073709551615

-- the maximum that is set at first: a link brings any number of runs
abbrev pub unlimited : ℕ
unlimited = 18446744073709551615

-- a store without xorbs and shards, whose answers don't expire
abbrev pub empty : StoreModel
empty = record { xorbs = finmap.empty; shards = []; hidden = finmap.empty; dedup = finmap.empty; expiration = never; max_ranges = unlimited; dedup_seconds = None }

-- the chunks of the xorb
abbrev pub stored : StoreModel → List ℕ → Option Chunks
stored m hash = get m.xorbs hash

-- the name of each shard is no other's
abbrev pub NamesDiffer : List ShardModel → Type 0
NamesDiffer [] = Unit {0}
NamesDiffer (s ∷ ss) = AllByRecursion (λ t. shard_name t ≢ shard_name s) ss × NamesDiffer ss

-- each stored chunk list is well formed, and its hash is its name; no two shards have one name; and a link may bring a run
pub record IsSound (m : StoreModel) : Type 0 where
  pub xorbs : (hash : List ℕ) (chunks : Chunks) → stored m hash ≡ Some chunks → IsWellFormed chunks × (xorb_name chunks ≡ hash)
  pub shards : NamesDiffer m.shards
  pub max_ranges : 0 < m.max_ranges

-- what is known of the stored xorbs without their bytes
abbrev pub known_of : StoreModel → Known
known_of m hash = option_map object_of (stored m hash)

-- the stored chunk lists
abbrev pub content_of : StoreModel → Content
content_of m hash = stored m hash

-- ---- listings

abbrev pub or_else : {A : Type 0} → Option A → Option A → Option A
or_else (Some x) o = Some x
or_else None o = o

-- the segments of the file in a shard
abbrev pub listed_in : List Listing → List ℕ → Option (List Segment)
listed_in [] file = None
listed_in (l ∷ ls) file = if same_hash l.file_hash file then Some l.segments else listed_in ls file

-- whether the file is hidden
abbrev pub is_hidden : StoreModel → List ℕ → Bool
is_hidden m file = is_some (get m.hidden file)

-- whether a shard lists the file
abbrev pub lists : ShardModel → List ℕ → Bool
lists s file = is_some (listed_in s.files file)

-- the last shard that lists the file
abbrev pub last_shard : List ShardModel → List ℕ → Option ShardModel
last_shard [] file = None
last_shard (s ∷ ss) file = or_else (last_shard ss file) (if lists s file then Some s else None)

-- the last stored shard that lists the file, where the file isn't hidden: the file is live
abbrev pub live : StoreModel → List ℕ → Option ShardModel
live m file = if is_hidden m file then None else last_shard m.shards file

-- the segments of the file in the last stored shard that lists it, where it is live
abbrev pub listing : StoreModel → List ℕ → Option (List Segment)
listing m file = option_and_then (λ s. listed_in s.files file) (live m file)

-- ---- acceptance and deletion

-- the shards but that of this name
abbrev pub without_shard : List ShardModel → List ℕ → List ShardModel
without_shard shards name = filter (λ t. not (same_hash (shard_name t) name)) shards

-- the shards, with one last in place of that of its name
abbrev pub with_shard : List ShardModel → ShardModel → List ShardModel
with_shard shards s = without_shard shards (shard_name s) ++ s ∷ []

-- the hidden files but those that are listed
abbrev pub shown : Hashes → List Listing → Hashes
shown hidden files = fold (λ h f. remove h f.file_hash) hidden files

-- the entries, with those of the chunks naming the shard
abbrev pub with_entries : FinMap hash_cmp (List ℕ) → List (List ℕ) → List ℕ → FinMap hash_cmp (List ℕ)
with_entries dedup chunks name = fold (λ d chunk. insert d chunk name) dedup chunks

-- the shard goes last, in place of that of its name; the entries of its eligible chunks name it; its files are hidden no more
abbrev pub accepted : StoreModel → ShardModel → StoreModel
accepted m s = record m { shards = with_shard m.shards s; hidden = shown m.hidden s.files; dedup = with_entries m.dedup (eligible_of s) (shard_name s) }

abbrev pub with_xorb : StoreModel → List ℕ → Chunks → StoreModel
with_xorb m hash chunks = record m { xorbs = insert m.xorbs hash chunks }

-- the shard of this name
abbrev pub shard_named : List ShardModel → List ℕ → Option ShardModel
shard_named [] name = None
shard_named (s ∷ ss) name = if same_hash (shard_name s) name then Some s else shard_named ss name
