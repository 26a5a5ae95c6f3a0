-- Chunk lists: what a xorb holds.
use Rattle.std.specs.Prelude.{ℕ, List, length, map}
use Rattle.std.specs.List.{flat_map}
use Rattle.xet_types.specs.Names.{chunk_hash}
use Rattle.xet_xorb.specs.Lengths.{IsChunkLength, AreLengths}
use Rattle.xet_xorb.specs.Values.{Xorb}

-- a chunk has 1 to 16,777,215 bytes
abbrev pub IsChunk : List ℕ → Type 0
IsChunk chunk = IsChunkLength (length chunk)

-- the lengths of the chunks
abbrev pub lengths_of : List (List ℕ) → List ℕ
lengths_of chunks = map length chunks

-- The list is that of a xorb: at least one chunk, each of 1 to 16,777,215 bytes, and in all less than 2^32 bytes with
-- the headers and the footer.
pub record IsWellFormed (chunks : List (List ℕ)) : Type 0 where
  pub lengths : AreLengths (lengths_of chunks)

-- what is known of a xorb of these chunks without their bytes: their hashes and their lengths
abbrev pub object_of : List (List ℕ) → Xorb
object_of chunks = record { hashes = map chunk_hash chunks; lengths = lengths_of chunks }

-- the chunks' bytes, one chunk after another
abbrev pub joined : List (List ℕ) → List ℕ
joined chunks = flat_map (λ chunk. chunk) chunks
