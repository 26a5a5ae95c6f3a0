-- What the calls of a xorb's object answer of a xorb's bytes.
use Rattle.std.specs.Prelude.{◌≡◌, ℕ, ◌<◌, ◌≤◌, List, length, slice_range, Result, Ok, Err}
use Rattle.std.specs.Global.{Vec}
use Rattle.xet_types.specs.declared.error.ClientError.{ClientError}
use Rattle.xet_types.specs.declared.error.ClientError.TheVariants.{FormatError, InvalidRange, OutOfMemory}
use Rattle.xet_types.specs.declared.error.FormatFault.TheVariants as faults
use Rattle.xet_xorb.specs.Values.{Xorb}
use Rattle.xet_xorb.specs.ChunkLists.{IsWellFormed, object_of, joined}
use Rattle.xet_xorb.specs.XorbBytes.{xorb_bytes, IsXorbText}

-- ---- an object from its footer

-- the bytes are the text of a well-formed list with its footer
pub record HasFooter (bytes : List ℕ) (chunks : List (List ℕ)) : Type 0 where
  pub formed : IsWellFormed chunks
  pub text : bytes ≡ xorb_bytes chunks

-- the bytes are the text of a list with its footer, and this is known of the list
pub record HasObject (bytes : List ℕ) (object : Xorb) : Type 0 where
  pub chunks : List (List ℕ)
  pub footed : HasFooter bytes chunks
  pub known : object ≡ object_of chunks

-- An object is read exactly where the bytes are a xorb's with its footer, unless memory runs out.
abbrev pub Deserializes : List ℕ → Result Xorb ClientError → Type 0
Deserializes bytes (Ok object) = HasObject bytes object
Deserializes bytes (Err OutOfMemory) = Unit {0}
Deserializes bytes (Err (FormatError faults.Xorb)) = (chunks : List (List ℕ)) → HasFooter bytes chunks → ⊥
Deserializes bytes (Err e) = ⊥

-- ---- chunks of an object's xorb

-- the bytes are a xorb's, with its footer or without it, and the object is that of its chunks
pub record IsXorbOf (object : Xorb) (bytes : List ℕ) (chunks : List (List ℕ)) : Type 0 where
  pub spelled : IsXorbText bytes chunks
  pub known : object ≡ object_of chunks

abbrev pub ReadsOwn : Xorb → List ℕ → Result (Vec (List ℕ)) ClientError → Type 0
ReadsOwn object bytes (Ok chunks) = IsXorbOf object bytes chunks.items
ReadsOwn object bytes (Err OutOfMemory) = Unit {0}
ReadsOwn object bytes (Err (FormatError faults.Xorb)) = (chunks : List (List ℕ)) → IsXorbOf object bytes chunks → ⊥
ReadsOwn object bytes (Err e) = ⊥

-- the joined chunks of the object's xorb, which the bytes are
pub record AreAllBytes (object : Xorb) (bytes all : List ℕ) : Type 0 where
  pub chunks : List (List ℕ)
  pub own : IsXorbOf object bytes chunks
  pub text : all ≡ joined chunks

-- The chunks are given exactly where the bytes are those of the object's xorb, unless memory runs out.
abbrev pub GivesAllBytes : Xorb → List ℕ → Result (List ℕ) ClientError → Type 0
GivesAllBytes object bytes (Ok all) = AreAllBytes object bytes all
GivesAllBytes object bytes (Err OutOfMemory) = Unit {0}
GivesAllBytes object bytes (Err (FormatError faults.Xorb)) = (chunks : List (List ℕ)) → IsXorbOf object bytes chunks → ⊥
GivesAllBytes object bytes (Err e) = ⊥

-- the range is not empty, and ends within so many chunks
abbrev pub IsRangeOf : ℕ → ℕ → ℕ → Type 0
IsRangeOf count start end = (start < end) × (end ≤ count)

-- the joined chunks of a range of the object's xorb, which the bytes are
pub record AreRangeBytes (object : Xorb) (bytes : List ℕ) (start end : ℕ) (part : List ℕ) : Type 0 where
  pub chunks : List (List ℕ)
  pub own : IsXorbOf object bytes chunks
  pub range : IsRangeOf (length chunks) start end
  pub text : part ≡ joined (slice_range chunks start end)

-- the bytes are those of the object's xorb, and the range is none of its chunks
pub record LeavesXorb (object : Xorb) (bytes : List ℕ) (start end : ℕ) : Type 0 where
  pub chunks : List (List ℕ)
  pub own : IsXorbOf object bytes chunks
  pub outside : IsRangeOf (length chunks) start end → ⊥

-- The bytes decide first, then the range; memory may run out.
abbrev pub GivesRange : Xorb → List ℕ → ℕ → ℕ → Result (List ℕ) ClientError → Type 0
GivesRange object bytes start end (Ok part) = AreRangeBytes object bytes start end part
GivesRange object bytes start end (Err OutOfMemory) = Unit {0}
GivesRange object bytes start end (Err (FormatError faults.Xorb)) = (chunks : List (List ℕ)) → IsXorbOf object bytes chunks → ⊥
GivesRange object bytes start end (Err InvalidRange) = LeavesXorb object bytes start end
GivesRange object bytes start end (Err e) = ⊥

-- ---- a footer where there was none

-- the text with its footer of the list that the bytes spell, and what is known of the list
pub record IsRebuilt (bytes text : List ℕ) (object : Xorb) : Type 0 where
  pub chunks : List (List ℕ)
  pub spelled : IsXorbText bytes chunks
  pub whole : text ≡ xorb_bytes chunks
  pub known : object ≡ object_of chunks

-- A xorb gets its footer exactly where the bytes are a xorb's, with its footer or without it, unless memory runs out.
abbrev pub Reconstructs : List ℕ → Result (List ℕ × Xorb) ClientError → Type 0
Reconstructs bytes (Ok r) = IsRebuilt bytes r.0 r.1
Reconstructs bytes (Err OutOfMemory) = Unit {0}
Reconstructs bytes (Err (FormatError faults.Xorb)) = (chunks : List (List ℕ)) → IsXorbText bytes chunks → ⊥
Reconstructs bytes (Err e) = ⊥
