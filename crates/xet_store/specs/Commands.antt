-- What the commands of a store answer and leave.
use Rattle.std.specs.Prelude.{◌≡◌, ◌≢◌, ℕ, ◌==◌, Bool, true, List, Option, Some, None, Result, Ok, Err, if◌then◌else◌, ◌+◌, ◌/◌, nat_eq, false, not}
use Rattle.std.specs.List.{fold}
use Rattle.std.specs.Option.{is_some}
use Rattle.std.specs.FinMap.{FinMap, get, insert, remove, retain_keys}
use Rattle.xet_types.specs.declared.error.Refusal.{Refusal}
use Rattle.xet_types.specs.declared.error.Refusal.TheVariants.{FormatError, InvalidArguments, Other}
use Rattle.xet_types.specs.declared.error.FormatFault.TheVariants as faults
use Rattle.xet_types.specs.Names.{hash_cmp, same_hash, xorb_name}
use Rattle.xet_xorb.specs.Lengths.{serialized_length}
use Rattle.xet_xorb.specs.ChunkLists.{IsWellFormed, lengths_of}
use Rattle.xet_xorb.specs.Generated.{seeded_chunks}
use Rattle.xet_xorb.specs.XorbBytes.{IsXorbText}
use Rattle.xet_shard.specs.Listings.{ShardModel}
use Rattle.xet_shard.specs.ShardBytes.{IsReadAs}
use Rattle.xet_shard.specs.Canonical.{canonical_of}
use Rattle.xet_generated.specs.Terms.{Term, xorbs_of, CanGenerate}
use Rattle.xet_generated.specs.Shards.{generated_shard}
use Rattle.xet_generated.specs.Contents.{FileModel, lazy_contents}
use Rattle.xet_store.specs.StoreModel.{StoreModel, Chunks, stored, with_xorb, accepted, shard_named, without_shard}

-- ---- uploads of xorbs

-- the bytes spell a list of this name: it is stored, and its length with its footer is the answer
pub record TakesXorb (old : StoreModel) (hash content : List ℕ) (n : ℕ) (new : StoreModel) : Type 0 where
  pub chunks : Chunks
  pub spelled : IsXorbText content chunks
  pub named : xorb_name chunks ≡ hash
  pub length : n ≡ serialized_length (lengths_of chunks)
  pub stored : new ≡ with_xorb old hash chunks

-- the bytes spell a list of another name
pub record IsMisnamed (hash content : List ℕ) : Type 0 where
  pub chunks : Chunks
  pub spelled : IsXorbText content chunks
  pub misnamed : xorb_name chunks ≢ hash

abbrev pub UploadsFresh : StoreModel → List ℕ → List ℕ → Result ℕ Refusal → StoreModel → Type 0
UploadsFresh old hash content (Ok n) new = TakesXorb old hash content n new
UploadsFresh old hash content (Err (FormatError faults.Xorb)) new = ((chunks : Chunks) → IsXorbText content chunks → ⊥) × (new ≡ old)
UploadsFresh old hash content (Err Other) new = IsMisnamed hash content × (new ≡ old)
UploadsFresh old hash content (Err why) new = ⊥

-- under a stored hash the bytes count for nothing; else their format decides, and then their name
abbrev pub UploadsOver : Option Chunks → StoreModel → List ℕ → List ℕ → Result ℕ Refusal → StoreModel → Type 0
UploadsOver (Some chunks) old hash content result new = (result ≡ Ok 0) × (new ≡ old)
UploadsOver None old hash content result new = UploadsFresh old hash content result new

abbrev pub UploadsXorb : StoreModel → List ℕ → List ℕ → Result ℕ Refusal → StoreModel → Type 0
UploadsXorb old hash content result new = UploadsOver (stored old hash) old hash content result new

-- ---- uploads of shards

-- the bytes spell a shard, which is accepted in canonical form
pub record TakesShard (old : StoreModel) (content : List ℕ) (new : StoreModel) : Type 0 where
  pub shard : ShardModel
  pub spelled : IsReadAs content shard
  pub accepted : new ≡ accepted old (canonical_of shard)

abbrev pub UploadsShard : StoreModel → List ℕ → Result Bool Refusal → StoreModel → Type 0
UploadsShard old content (Ok taken) new = (taken ≡ true) × TakesShard old content new
UploadsShard old content (Err (FormatError faults.Shard)) new = ((shard : ShardModel) → IsReadAs content shard → ⊥) × (new ≡ old)
UploadsShard old content (Err why) new = ⊥

-- ---- commands that are functions

-- an answer, and the store after it
abbrev pub Outcome : Type 0 → Type 0
Outcome T = Result T Refusal × StoreModel

abbrev pub Is : {T : Type 0} → Outcome T → Result T Refusal → StoreModel → Type 0
Is outcome result new = (result ≡ outcome.0) × (new ≡ outcome.1)

abbrev pub done : StoreModel → Outcome (Unit {0})
done new = (Ok tt, new)

-- a file is hidden, also where it was, or where nothing lists it
abbrev pub hide_file : StoreModel → List ℕ → Outcome (Unit {0})
hide_file old file = done (record old { hidden = insert old.hidden file tt })

-- the shard goes; entries that name it stay
abbrev pub delete_shard : StoreModel → List ℕ → Outcome (Unit {0})
delete_shard old name = if is_some (shard_named old.shards name) then done (record old { shards = without_shard old.shards name }) else (Err Other, old)

-- the xorb goes, where it is stored
abbrev pub delete_xorb : StoreModel → List ℕ → Outcome (Unit {0})
delete_xorb old hash = done (record old { xorbs = remove old.xorbs hash })

-- the age in milliseconds above which a link is expired
abbrev pub set_expiration : StoreModel → ℕ → Outcome (Unit {0})
set_expiration old millis = done (record old { expiration = millis })

-- the most runs that a link of version 2 brings, which must be some
abbrev pub set_max_ranges : StoreModel → ℕ → Outcome (Unit {0})
set_max_ranges old max = if max == 0 then (Err InvalidArguments, old) else done (record old { max_ranges = max })

-- a time in milliseconds as whole seconds, rounded up
abbrev pub seconds_of : ℕ → ℕ
seconds_of millis = (millis + 999) / 1000

-- no time, also where it is 0
abbrev pub seconds_asked : Option ℕ → Option ℕ
seconds_asked None = None
seconds_asked (Some millis) = if nat_eq millis 0 then None else Some (seconds_of millis)

-- for how long an answer to a query for deduplication is good, in milliseconds; kept in whole seconds
abbrev pub set_dedup_expiration : StoreModel → Option ℕ → Outcome (Unit {0})
set_dedup_expiration old millis = done (record old { dedup_seconds = seconds_asked millis })

abbrev pub is_entry : List ℕ → Option (List ℕ) → Bool
is_entry name None = false
is_entry name (Some n) = same_hash n name

-- the entries but those that name the shard
abbrev pub without_entries : FinMap hash_cmp (List ℕ) → List ℕ → FinMap hash_cmp (List ℕ)
without_entries dedup name = retain_keys dedup (λ chunk. not (is_entry name (get dedup chunk)))

-- the entries for deduplication that name a shard go, whether it is stored or not
abbrev pub drop_dedup : StoreModel → List ℕ → Outcome (Unit {0})
drop_dedup old name = done (record old { dedup = without_entries old.dedup name })

-- ---- generated xorbs

-- the xorb under its name, where none is stored there
abbrev pub with_absent : StoreModel → Chunks → StoreModel
with_absent old chunks = if is_some (stored old (xorb_name chunks)) then old else with_xorb old (xorb_name chunks) chunks

-- its name is the answer
abbrev pub insert_xorb : StoreModel → Chunks → Outcome (List ℕ)
insert_xorb old chunks = (Ok (xorb_name chunks), with_absent old chunks)

-- The xorb of so many chunks of one length from one seed is stored, where these are the chunks of a xorb.
abbrev pub InsertsSeeded : StoreModel → ℕ → ℕ → ℕ → Result (List ℕ) Refusal → StoreModel → Type 0
InsertsSeeded old seed count size (Ok hash) new = IsWellFormed (seeded_chunks seed count size) × Is (insert_xorb old (seeded_chunks seed count size)) (Ok hash) new
InsertsSeeded old seed count size (Err InvalidArguments) new = (IsWellFormed (seeded_chunks seed count size) → ⊥) × (new ≡ old)
InsertsSeeded old seed count size (Err why) new = ⊥

-- ---- generated files

-- each xorb under its name, where none is stored there
abbrev pub with_all_absent : StoreModel → List Chunks → StoreModel
with_all_absent old xorbs = fold with_absent old xorbs

-- the xorb of each seed is stored, where none is under its name, and the shard of the file is accepted in canonical form
abbrev pub with_generated : StoreModel → List Term → ℕ → StoreModel
with_generated old terms size = accepted (with_all_absent old (xorbs_of terms size)) (canonical_of (generated_shard terms size))

-- The file of these terms is stored, where they are those of a file.
abbrev pub InsertsLazy : StoreModel → List Term → ℕ → Result FileModel Refusal → StoreModel → Type 0
InsertsLazy old terms size (Ok contents) new = CanGenerate terms size × (contents ≡ lazy_contents terms size) × (new ≡ with_generated old terms size)
InsertsLazy old terms size (Err InvalidArguments) new = (CanGenerate terms size → ⊥) × (new ≡ old)
InsertsLazy old terms size (Err why) new = ⊥
