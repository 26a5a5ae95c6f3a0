-- The chunks of a shard that get an entry for deduplication.
use Rattle.std.specs.Prelude.{ℕ, Bool, ◌%◌, ◌==◌, not, List, [], ◌∷◌, filter, map, drop}
use Rattle.std.specs.List.{flat_map}
use Rattle.std.specs.Int.{w64, from_le_bytes}
use Rattle.xet_types.specs.Names.{same_hash}
use Rattle.xet_shard.specs.Values.{ListedXorb}
use Rattle.xet_shard.specs.Listings.{ShardModel}

-- the last eight bytes of the hash, the lowest first, are a number that 1024 divides
unfoldable pub is_marked : List ℕ → Bool
is_marked hash = from_le_bytes w64 (drop 24 hash) % 1024 == 0

-- the hashes of the first chunk, and of each other one that is marked
abbrev pub eligible_among : List (List ℕ) → List (List ℕ)
eligible_among [] = []
eligible_among (h ∷ hs) = h ∷ filter is_marked hs

abbrev pub chunk_hashes_of : ListedXorb → List (List ℕ)
chunk_hashes_of x = map (λ c. c.chunk_hash) x.chunks

abbrev pub eligible_in : ListedXorb → List (List ℕ)
eligible_in x = eligible_among (chunk_hashes_of x)

-- each hash where it stands first
abbrev pub distinct : List (List ℕ) → List (List ℕ)
distinct [] = []
distinct (h ∷ hs) = h ∷ filter (λ g. not (same_hash g h)) (distinct hs)

-- of each xorb of a shard in canonical form the first chunk and the marked ones, each hash once
abbrev pub eligible_of : ShardModel → List (List ℕ)
eligible_of s = distinct (flat_map eligible_in s.xorbs)
