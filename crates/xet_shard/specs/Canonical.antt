-- The canonical form of a shard, and its name.
use Rattle.std.specs.Prelude.{◌≡◌, ℕ, List, map, reverse}
use Rattle.std.specs.List.Sorted.{IsStrictlySortedBy}
use Rattle.std.specs.FinMap.{FinMap, from_entries, values}
use Rattle.xet_types.specs.Names.{data_hash, hash_cmp}
use Rattle.xet_shard.specs.Values.{Listing, ListedXorb}
use Rattle.xet_shard.specs.Listings.{ShardModel}
use Rattle.xet_shard.specs.ShardBytes.{shard_bytes}

abbrev pub file_hash_of : Listing → List ℕ
file_hash_of f = f.file_hash

abbrev pub xorb_hash_of : ListedXorb → List ℕ
xorb_hash_of x = x.xorb_hash

-- each entry of a list under its hash; a map made of entries has the first value of each key
abbrev pub under_hashes : {X : Type 0} → (X → List ℕ) → List X → List (List ℕ × X)
under_hashes hash_of xs = map (λ x. (hash_of x, x)) xs

-- the map that has, at each hash that is listed, the last entry with it
abbrev pub last_entries : {X : Type 0} → (X → List ℕ) → List X → FinMap hash_cmp X
last_entries hash_of xs = from_entries {R = hash_cmp} (reverse (under_hashes hash_of xs))

-- the last entry of each hash that is listed, in order of hash
unfoldable pub last_by_hash : {X : Type 0} → (X → List ℕ) → List X → List X
last_by_hash hash_of xs = values (last_entries hash_of xs)

-- no expiry; the last listing of each file, in order of hash; the xorbs likewise
abbrev pub canonical_of : ShardModel → ShardModel
canonical_of s = record { expiry = 0; files = last_by_hash file_hash_of s.files; xorbs = last_by_hash xorb_hash_of s.xorbs }

-- a shard is canonical where it has no expiry, and the hashes of its files rise, and those of its xorbs: each is above
-- all before it
pub record IsCanonical (s : ShardModel) : Type 0 where
  pub no_expiry : s.expiry ≡ 0
  pub files : IsStrictlySortedBy hash_cmp (map file_hash_of s.files)
  pub xorbs : IsStrictlySortedBy hash_cmp (map xorb_hash_of s.xorbs)

-- the bytes of the canonical form
abbrev pub canonical_text : ShardModel → List ℕ
canonical_text s = shard_bytes (canonical_of s)

-- the name of a shard: the hash of the bytes of its canonical form
abbrev pub shard_name : ShardModel → List ℕ
shard_name s = data_hash (canonical_text s)
