-- The lists of a store's shards and of what they list.
use Rattle.std.specs.Prelude.{ℕ, Bool, not, List, map, filter, Option, Some, None, Result, Ok, Err}
use Rattle.std.specs.Option.{is_some}
use Rattle.std.specs.List.{fold, flat_map}
use Rattle.std.specs.FinMap.{FinMap, get, insert, keys}
use Rattle.std.specs.FinMap as finmap
use Rattle.xet_types.specs.declared.error.Refusal.{Refusal}
use Rattle.xet_types.specs.declared.error.Refusal.TheVariants.{Other}
use Rattle.xet_bytes.specs.Pairs.{TwoHashes, hashes_cmp}
use Rattle.xet_shard.specs.Values.{Listing}
use Rattle.xet_shard.specs.Listings.{ShardModel}
use Rattle.xet_shard.specs.Canonical.{shard_name, canonical_text}
use Rattle.xet_store.specs.StoreModel.{StoreModel, Hashes, shard_named}

-- the set with these hashes too
abbrev pub set_with : Hashes → List (List ℕ) → Hashes
set_with set hashes = fold (λ h x. insert h x tt) set hashes

-- the set of these hashes
abbrev pub set_of : List (List ℕ) → Hashes
set_of hashes = set_with finmap.empty hashes

-- the names of the stored shards, in order
abbrev pub shard_hashes : StoreModel → List (List ℕ)
shard_hashes m = keys (set_of (map shard_name m.shards))

-- a set of pairs of hashes
abbrev pub PairSet : Type 0
PairSet = FinMap hashes_cmp (Unit {0})

-- the set with these pairs too
abbrev pub pairs_with : PairSet → List TwoHashes → PairSet
pairs_with set pairs = fold (λ s p. insert s p tt) set pairs

-- the file isn't among the hidden ones
abbrev pub is_shown : Hashes → Listing → Bool
is_shown hidden f = not (is_some (get hidden f.file_hash))

-- the listings of a shard that aren't hidden
abbrev pub shown_files : Hashes → ShardModel → List Listing
shown_files hidden s = filter (is_shown hidden) s.files

-- the listings that aren't hidden, each as its file and this name
abbrev pub shown_as : Hashes → List Listing → List ℕ → List TwoHashes
shown_as hidden files name = map (λ f. (f.file_hash, name)) (filter (is_shown hidden) files)

-- those of a shard, with its name
abbrev pub shown_in : Hashes → ShardModel → List TwoHashes
shown_in hidden s = shown_as hidden s.files (shard_name s)

-- every listing that isn't hidden, in order of file, then of shard
abbrev pub file_entries : StoreModel → List TwoHashes
file_entries m = keys (pairs_with finmap.empty (flat_map (shown_in m.hidden) m.shards))

abbrev pub text_named : Option ShardModel → Result (List ℕ) Refusal
text_named None = Err Other
text_named (Some s) = Ok (canonical_text s)

-- the canonical text of the shard of this name
abbrev pub shard_text : StoreModel → List ℕ → Result (List ℕ) Refusal
shard_text m name = text_named (shard_named m.shards name)
