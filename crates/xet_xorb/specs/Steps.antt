-- The steps of reading a xorb: a header, a chunk, and the chunks to their end.
use Rattle.std.specs.Prelude.{◌≡◌, ℕ, ◌≤◌, Bool, true, ◌&&◌, nat_lt, ◌==◌, List, [], ◌∷◌, ◌++◌, length, map, drop, Result, Ok, Err}
use Rattle.std.specs.Global.{Vec}
use Rattle.xet_types.specs.Names.{chunk_hash}
use Rattle.xet_bytes.specs.declared.cursor.ReadError.{ReadError}
use Rattle.xet_bytes.specs.declared.cursor.ReadError.TheVariants.{Memory, Malformed}
use Rattle.xet_bytes.specs.Reading.{Reading, number24_at, literal_at, pair_at, view_at, such_at}
use Rattle.xet_xorb.specs.declared.read.Parts.{Parts}
use Rattle.xet_xorb.specs.declared.read.ReadXorb.{ReadXorb}
use Rattle.xet_xorb.specs.Lengths.{IsChunkLength}
use Rattle.xet_xorb.specs.ChunkLists.{IsChunk, IsWellFormed, lengths_of}
use Rattle.xet_xorb.specs.XorbBytes.{header_bytes, chunk_bytes, xorb_text, IsXorbText, IsReadOf, AreWholeChunks}

-- the two lengths of a header are one, above 0
abbrev pub same_lengths : Unit {0} × (ℕ × (Unit {0} × ℕ)) → Bool
same_lengths p = (p.1.0 == p.1.1.1) && nat_lt 0 p.1.0

abbrev pub stored_of : Unit {0} × (ℕ × (Unit {0} × ℕ)) → ℕ
stored_of p = p.1.0

-- a version byte, the stored length, a scheme byte and the plain length
abbrev pub header_at : Reading ℕ
header_at = view_at stored_of (such_at same_lengths (pair_at (literal_at (0 ∷ [])) (pair_at number24_at (pair_at (literal_at (0 ∷ [])) number24_at))))

-- the bytes begin with the header of a chunk of this length
pub record HasHeader (bytes : List ℕ) (n : ℕ) : Type 0 where
  pub fits : IsChunkLength n
  pub long : 8 ≤ length bytes
  pub text : bytes ≡ header_bytes n ++ drop 8 bytes

-- The bytes begin with the header of a chunk of this length, or with none.
abbrev pub ReadsHeader : List ℕ → Result ℕ ReadError → Type 0
ReadsHeader bytes (Ok n) = HasHeader bytes n
ReadsHeader bytes (Err Memory) = Unit {0}
ReadsHeader bytes (Err Malformed) = (n : ℕ) (rest : List ℕ) → IsChunkLength n → bytes ≡ header_bytes n ++ rest → ⊥

-- the bytes begin with this chunk, and the rest is left
pub record HasChunk (bytes chunk rest : List ℕ) : Type 0 where
  pub fits : IsChunk chunk
  pub text : bytes ≡ chunk_bytes chunk ++ rest

-- The bytes begin with this chunk, and the rest is left; or they begin with none.
abbrev pub TakesChunk : {X : Type 0} → (X → List ℕ) → List ℕ → Result X ReadError → (X → List ℕ) → Type 0
TakesChunk chunk bytes (Ok x) rest = HasChunk bytes (chunk x) (rest x)
TakesChunk chunk bytes (Err Memory) rest = Unit {0}
TakesChunk chunk bytes (Err Malformed) rest = (first after : List ℕ) → HasChunk bytes first after → ⊥

-- no chunk comes next: nothing is left, or a byte stands there with which a footer begins
abbrev pub at_chunks_end : List ℕ → Bool
at_chunks_end [] = true
at_chunks_end (byte ∷ bytes) = byte == 88

-- the bytes begin with the chunks of a well-formed list, and then no chunk comes
pub record BeginsWith (bytes : List ℕ) (chunks : List (List ℕ)) (rest : List ℕ) : Type 0 where
  pub formed : IsWellFormed chunks
  pub text : bytes ≡ xorb_text chunks ++ rest
  pub ends : at_chunks_end rest ≡ true

-- the chunks with which the bytes begin, with their hashes and lengths, and what is left
pub record ArePartsOf (bytes : List ℕ) (parts : Parts) : Type 0 where
  pub chunks : BeginsWith bytes parts.chunks.items parts.rest
  pub hashes : parts.hashes.items ≡ map chunk_hash parts.chunks.items
  pub lengths : parts.lengths.items ≡ lengths_of parts.chunks.items

abbrev pub ReadsParts : List ℕ → Result Parts ReadError → Type 0
ReadsParts bytes (Ok parts) = ArePartsOf bytes parts
ReadsParts bytes (Err Memory) = Unit {0}
ReadsParts bytes (Err Malformed) = (chunks : List (List ℕ)) (rest : List ℕ) → BeginsWith bytes chunks rest → ⊥

abbrev pub ReadsWhole : List ℕ → Result ReadXorb ReadError → Type 0
ReadsWhole bytes (Ok read) = IsReadOf bytes read
ReadsWhole bytes (Err Memory) = Unit {0}
ReadsWhole bytes (Err Malformed) = (chunks : List (List ℕ)) → IsXorbText bytes chunks → ⊥

abbrev pub TakesChunks : List ℕ → Result (Vec (List ℕ)) ReadError → Type 0
TakesChunks bytes (Ok chunks) = AreWholeChunks bytes chunks.items
TakesChunks bytes (Err Memory) = Unit {0}
TakesChunks bytes (Err Malformed) = (chunks : List (List ℕ)) → AreWholeChunks bytes chunks → ⊥
