-- The chunks that lie in bytes, one after another.
use Rattle.std.specs.Prelude.{◌≡◌, ℕ, zero, suc, Bool, true, false, List, [], ◌∷◌, length, take, drop, Option, Some, None}
use Rattle.xet_xorb.specs.Steps.{header_at}
use Rattle.xet_xorb.specs.XorbBytes.{AreChunksOf, AreWholeChunks}

-- the chunk behind a header that was read, and those that the rest holds
abbrev pub chunks_behind : (List ℕ → List (List ℕ)) → Option (ℕ × List ℕ) → List (List ℕ)
chunks_behind others None = []
chunks_behind others (Some (n, bytes)) = take n bytes ∷ others (drop n bytes)

-- the chunks that bytes begin with, at most so many
abbrev pub chunks_within : ℕ → List ℕ → List (List ℕ)
chunks_within zero bytes = []
chunks_within (suc n) bytes = chunks_behind (chunks_within n) (header_at bytes)

-- the chunks that bytes begin with; there are no more of them than bytes
unfoldable pub chunks_in : List ℕ → List (List ℕ)
chunks_in bytes = chunks_within (length bytes) bytes

-- the bytes are the chunks that they begin with, and nothing else
abbrev pub AreChunksIn : List ℕ → Type 0
AreChunksIn bytes = AreChunksOf bytes (chunks_in bytes)

-- whether the bytes are one whole chunk or more, and nothing else
abbrev pub IsTextOfChunks : List ℕ → Bool → Type 0
IsTextOfChunks bytes true = AreWholeChunks bytes (chunks_in bytes)
IsTextOfChunks bytes false = (chunks : List (List ℕ)) → AreWholeChunks bytes chunks → ⊥

-- The bytes are these chunks; or they are no whole chunks.
abbrev pub FindsChunks : List ℕ → Option (List (List ℕ)) → Type 0
FindsChunks bytes None = (chunks : List (List ℕ)) → AreWholeChunks bytes chunks → ⊥
FindsChunks bytes (Some chunks) = AreWholeChunks bytes chunks
