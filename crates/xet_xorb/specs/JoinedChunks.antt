-- Joined chunks, and where each of them begins and the last one ends.
use Rattle.std.specs.Prelude.{◌≡◌, ℕ, ◌+◌, ◌<◌, ◌^◌, List, [], ◌∷◌, ◌++◌, length, map, drop, sum, Result, Ok, Err}
use Rattle.std.specs.Global.{Vec}
use Rattle.xet_types.specs.declared.error.ClientError.{ClientError}
use Rattle.xet_types.specs.declared.error.ClientError.TheVariants.{FormatError, InvalidArguments, OutOfMemory}
use Rattle.xet_types.specs.declared.error.FormatFault.TheVariants as faults
use Rattle.xet_bytes.specs.declared.cursor.ReadError.{ReadError}
use Rattle.xet_bytes.specs.declared.cursor.ReadError.TheVariants.{Memory, Malformed}
use Rattle.xet_xorb.specs.ChunkLists.{lengths_of, joined}
use Rattle.xet_xorb.specs.XorbBytes.{AreChunksOf, running_sums}

-- ---- chunks that are read

-- the bytes are one chunk or more and nothing else, and the chunks' lengths sum to less than 2^32
pub record AreShortChunksOf (bytes : List ℕ) (chunks : List (List ℕ)) : Type 0 where
  pub spelled : AreChunksOf bytes chunks
  pub some : 0 < length chunks
  pub short : sum (lengths_of chunks) < 2 ^ 32

-- where each chunk begins in the joined chunks, and where the last one ends
abbrev pub offsets_of : List ℕ → List ℕ
offsets_of lengths = 0 ∷ running_sums 0 lengths

-- the chunks that the bytes are, joined, and their offsets
pub record AreJoined (bytes all offsets : List ℕ) : Type 0 where
  pub chunks : List (List ℕ)
  pub are : AreShortChunksOf bytes chunks
  pub text : all ≡ joined chunks
  pub places : offsets ≡ offsets_of (lengths_of chunks)

-- Chunks are read exactly where the bytes are such, unless memory runs out.
abbrev pub ReadsChunks : List ℕ → Result (Vec ℕ × Vec ℕ) ClientError → Type 0
ReadsChunks bytes (Ok r) = AreJoined bytes r.0.items r.1.items
ReadsChunks bytes (Err OutOfMemory) = Unit {0}
ReadsChunks bytes (Err (FormatError faults.Xorb)) = (chunks : List (List ℕ)) → AreShortChunksOf bytes chunks → ⊥
ReadsChunks bytes (Err e) = ⊥

abbrev pub JoinsChunks : List ℕ → Result (Vec ℕ × Vec ℕ) ReadError → Type 0
JoinsChunks bytes (Ok r) = AreJoined bytes r.0.items r.1.items
JoinsChunks bytes (Err Memory) = Unit {0}
JoinsChunks bytes (Err Malformed) = (chunks : List (List ℕ)) → AreShortChunksOf bytes chunks → ⊥

-- ---- segments that are appended

-- each number is above the one before it, and the last one is the end
abbrev pub RisesTo : ℕ → List ℕ → ℕ → Type 0
RisesTo from [] end = from ≡ end
RisesTo from (index ∷ indices) end = (from < index) × RisesTo index indices end

-- the numbers rise strictly from 0 to the end
abbrev pub IsIndexList : List ℕ → ℕ → Type 0
IsIndexList [] end = ⊥
IsIndexList (index ∷ indices) end = (index ≡ 0) × RisesTo index indices end

-- the same, where the list may be left out if the end is 0
abbrev pub IsIndexListSoFar : List ℕ → ℕ → Type 0
IsIndexListSoFar [] end = end ≡ 0
IsIndexListSoFar (index ∷ indices) end = IsIndexList (index ∷ indices) end

-- the segment's chunks can go behind those so far
pub record CanAppend (all indices content chunk_indices : List ℕ) : Type 0 where
  pub segment : IsIndexList chunk_indices (length content)
  pub before : IsIndexListSoFar indices (length all)
  pub short : length all + length content < 2 ^ 32

-- a list that was left out begins with 0
abbrev pub begun : List ℕ → List ℕ
begun [] = 0 ∷ []
begun (index ∷ indices) = index ∷ indices

-- the indices so far, which end at a place, and then the segment's from there on
abbrev pub continued : List ℕ → ℕ → List ℕ → List ℕ
continued indices end chunk_indices = begun indices ++ map (λ index. end + index) (drop 1 chunk_indices)

-- A segment is appended exactly where it can be, unless memory runs out.
abbrev pub AppendsSegment : List ℕ → List ℕ → List ℕ → List ℕ → Result (Unit {0}) ClientError → List ℕ → List ℕ → Type 0
AppendsSegment all indices content chunk_indices (Ok done) all' indices' = CanAppend all indices content chunk_indices × (all' ≡ all ++ content) × (indices' ≡ continued indices (length all) chunk_indices)
AppendsSegment all indices content chunk_indices (Err OutOfMemory) all' indices' = Unit {0}
AppendsSegment all indices content chunk_indices (Err InvalidArguments) all' indices' = CanAppend all indices content chunk_indices → ⊥
AppendsSegment all indices content chunk_indices (Err e) all' indices' = ⊥
