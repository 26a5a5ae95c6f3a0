-- The lengths of a xorb's chunks, and where the chunks lie.
use Rattle.std.specs.Prelude.{ℕ, ◌+◌, ◌*◌, ◌^◌, ◌<◌, List, length, take, sum, All}

-- a chunk has 1 to 16,777,215 bytes
abbrev pub IsChunkLength : ℕ → Type 0
IsChunkLength n = (0 < n) × (n < 2 ^ 24)

-- where chunk k begins in the joined chunks
abbrev pub unpacked_before : List ℕ → ℕ → ℕ
unpacked_before lengths k = sum (take k lengths)

-- where chunk k begins in the xorb's bytes, each chunk behind a header of 8
abbrev pub packed_before : List ℕ → ℕ → ℕ
packed_before lengths k = sum (take k lengths) + 8 * k

-- how long the xorb is with its footer of 44 + 40 a chunk and the four bytes of the footer's length
abbrev pub serialized_length : List ℕ → ℕ
serialized_length lengths = sum lengths + 8 * length lengths + (48 + 40 * length lengths)

-- the lengths of the chunks of a xorb: at least one, each within its limits, and in all less than 2^32 with the footer
pub record AreLengths (lengths : List ℕ) : Type 0 where
  pub some : 0 < length lengths
  pub each : All IsChunkLength lengths
  pub short : serialized_length lengths < 2 ^ 32
