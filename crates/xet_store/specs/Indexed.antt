-- Shards by serial number, and how they are found.
use Rattle.std.specs.Prelude.{◌≡◌, ℕ, ◌<◌, true, take, map, List, Option, Some, None}
use Rattle.std.specs.Option.{IsSome}
use Rattle.std.specs.List.{fold}
use Rattle.std.specs.List.Sorted.{IsStrictlySortedBy}
use Rattle.std.specs.Ordering.{nat_cmp}
use Rattle.std.specs.FinMap.{FinMap, get, insert, remove, values}
use Rattle.xet_types.specs.Names.{hash_cmp}
use Rattle.xet_bytes.specs.Pairs.{pair_cmp}
use Rattle.xet_shard.specs.Values.{Listing}
use Rattle.xet_shard.specs.Listings.{ShardModel}
use Rattle.xet_shard.specs.Canonical.{shard_name, canonical_of, file_hash_of}
use Rattle.xet_store.specs.StoreModel.{lists}

-- the shard has this name, is its own canonical form, and its files rise by hash
pub record IsKeptShard (name : List ℕ) (shard : ShardModel) : Type 0 where
  pub named : name ≡ shard_name shard
  pub canonical : canonical_of shard ≡ shard
  pub rises : IsStrictlySortedBy hash_cmp (map file_hash_of shard.files)

-- the shards by serial number
abbrev pub Kept : Type 0
Kept = FinMap nat_cmp ShardModel

-- the pairs of a file and the serial number of a shard that lists it
abbrev pub Listed : Type 0
Listed = FinMap pair_cmp (Unit {0})

-- the shards in order of their serial numbers
abbrev pub in_order : Kept → List ShardModel
in_order kept = values kept

-- a shard is kept under the serial number, and its name is this
abbrev pub IsNamed : List ℕ → Option ShardModel → Type 0
IsNamed name None = ⊥
IsNamed name (Some s) = shard_name s ≡ name

-- a shard is kept under the serial number, and lists the file
abbrev pub IsListing : List ℕ → Option ShardModel → Type 0
IsListing file None = ⊥
IsListing file (Some s) = lists s file ≡ true

-- Each shard's serial number is below the next one and found by the shard's name; no other name has one. The pairs are those of a
-- shard and a file that it lists.
pub record IsIndexed (kept : Kept) (by_name : FinMap hash_cmp ℕ) (listed : Listed) (next : ℕ) : Type 0 where
  pub below : (k : ℕ) (s : ShardModel) → get kept k ≡ Some s → k < next
  pub named : (k : ℕ) (s : ShardModel) → get kept k ≡ Some s → get by_name (shard_name s) ≡ Some k
  pub there : (name : List ℕ) (k : ℕ) → get by_name name ≡ Some k → IsNamed name (get kept k)
  pub pairs : (file : List ℕ) (k : ℕ) → IsSome (get listed (file, k)) → IsListing file (get kept k)
  pub all : (file : List ℕ) (k : ℕ) (s : ShardModel) → get kept k ≡ Some s → lists s file ≡ true → IsSome (get listed (file, k))

-- the pairs, with those of a shard's files
abbrev pub with_pairs : Listed → List Listing → ℕ → Listed
with_pairs listed files serial = fold (λ m f. insert m (f.file_hash, serial) tt) listed files

-- the pairs, with those of some first ones of a shard's files
abbrev pub AddsSome : Listed → List Listing → ℕ → Listed → Type 0
AddsSome old files serial new = (n : ℕ) × (new ≡ with_pairs old (take n files) serial)

-- no file has a pair with the serial number
abbrev pub IsFresh : Listed → ℕ → Type 0
IsFresh listed serial = (file : List ℕ) → get listed (file, serial) ≡ None

-- the pairs but those of a shard's files
abbrev pub without_pairs : Listed → List Listing → ℕ → Listed
without_pairs listed files serial = fold (λ m f. remove m (f.file_hash, serial)) listed files

-- the pairs but those of the shard under the serial number
abbrev pub unlisted : Listed → ℕ → Option ShardModel → Listed
unlisted listed serial None = listed
unlisted listed serial (Some s) = without_pairs listed s.files serial
