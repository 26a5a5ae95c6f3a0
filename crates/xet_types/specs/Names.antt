-- Names of chunks and xorbs, as lists of bytes.
use Rattle.std.specs.Prelude.{◌≡◌, ◌++◌, ℕ, List, map, Bool, nat_eq, Result, Ok, Err}
use Rattle.std.specs.List.{flat_map}
use Rattle.std.specs.Int.{w64, to_le_bytes}
use Rattle.std.specs.Ordering.{nat_cmp}
use Rattle.std.specs.declared.cmp.Ordering.{Ordering}
use Rattle.std.specs.Cmp.Lexicographic.{slice_cmp, pointwise}
use Rattle.sha2.specs.Sha256.{sha256}
use Rattle.hex.specs.Hex.{decode_sized}

-- SHA-256 (FIPS 180-4)
abbrev pub data_hash : List ℕ → List ℕ
data_hash bytes = sha256 bytes

-- the hash of a chunk
abbrev pub chunk_hash : List ℕ → List ℕ
chunk_hash chunk = data_hash chunk

-- the name of a xorb whose chunks have these hashes
abbrev pub name_of_hashes : List (List ℕ) → List ℕ
name_of_hashes hashes = data_hash (flat_map (λ hash. hash) hashes)

-- the name of a xorb of these chunks
abbrev pub xorb_name : List (List ℕ) → List ℕ
xorb_name chunks = name_of_hashes (map chunk_hash chunks)

-- a chunk of a file: its hash, and its size as 8 bytes, the lowest first
unfoldable pub sized_chunk : List ℕ × ℕ → List ℕ
sized_chunk chunk = chunk.0 ++ to_le_bytes w64 chunk.1

-- the name of a file of these chunks under a salt
abbrev pub file_name : List (List ℕ × ℕ) → List ℕ → List ℕ
file_name chunks salt = data_hash (flat_map sized_chunk chunks ++ salt)

-- hashes are in order of their bytes
abbrev pub hash_cmp : List ℕ → List ℕ → Ordering
hash_cmp a b = slice_cmp nat_cmp a b

abbrev pub same_hash : List ℕ → List ℕ → Bool
same_hash a b = pointwise nat_eq a b

-- what reading 64 digits answers
abbrev pub Decodes : {E : Type 0} → List ℕ → Result (List ℕ) E → Type 0
Decodes text (Ok hash) = decode_sized text 32 ≡ Ok hash
Decodes text (Err e) = (hash : List ℕ) → decode_sized text 32 ≡ Ok hash → ⊥
