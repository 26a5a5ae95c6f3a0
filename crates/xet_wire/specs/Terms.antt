-- Terms: their grammar, the texts that are written, and what reading one answers.
use Rattle.std.specs.Prelude.{◌≡◌, ◌++◌, ◌∷◌, [], ◌⊎◌, ℕ, List, Result, Ok, Err}
use Rattle.hex.specs.Hex.{encode_lower}
use Rattle.xet_types.specs.declared.error.ClientError.{ClientError}
use Rattle.xet_types.specs.declared.error.ClientError.TheVariants.{InvalidArguments, OutOfMemory}
use Rattle.xet_types.specs.declared.range.Range.{Range}
use Rattle.xet_types.specs.declared.range._F.{_F}
use Rattle.xet_types.specs.declared.record.XorbRangeDescriptor.{XorbRangeDescriptor}
use Rattle.xet_types.specs.Ranges.{file_range_of}
use Rattle.xet_wire.specs.Texts.{IsHashOf, IsHashThen, ListsRanges, ranges_text}
use Rattle.xet_wire.specs.Payloads.{Encodes}

-- what a term names: a xorb, and ranges of its bytes with excluded ends
pub record Term : Type 0 where
  pub hash : List ℕ
  pub byte_ranges : List (Range ℕ _F)

abbrev pub term : List ℕ → List (Range ℕ _F) → Term
term hash byte_ranges = record { hash = hash; byte_ranges = byte_ranges }

-- the bytes of a run of chunks, with an excluded end
abbrev pub file_bytes_of : XorbRangeDescriptor → Range ℕ _F
file_bytes_of d = file_range_of d.bytes

-- the payload of a term with ranges
unfoldable pub term_payload : List ℕ → List (Range ℕ _F) → List ℕ
term_payload hash ranges = encode_lower hash ++ (58 ∷ ranges_text ranges)

-- a payload is that of a term with ranges: a hash and ranges, with a colon between them
pub record SpellsRanged (payload : List ℕ) (t : Term) : Type 0 where
  pub list : List ℕ
  pub is_hash : IsHashThen payload t.hash list
  pub is_list : ListsRanges list t.byte_ranges

-- a payload is that of a term without ranges: a hash
pub record SpellsPlain (payload : List ℕ) (t : Term) : Type 0 where
  pub is_hash : IsHashOf payload t.hash
  pub no_ranges : t.byte_ranges ≡ []

abbrev pub SpellsTermPayload : List ℕ → Term → Type 0
SpellsTermPayload payload t = SpellsPlain payload t ⊎ SpellsRanged payload t

-- what reading such a payload answers
abbrev pub ReadsTermPayload : List ℕ → Result Term ClientError → Type 0
ReadsTermPayload payload (Ok t) = SpellsTermPayload payload t
ReadsTermPayload payload (Err InvalidArguments) = (t : Term) → ¬ SpellsTermPayload payload t
ReadsTermPayload payload (Err OutOfMemory) = Unit {0}
ReadsTermPayload payload (Err _) = ⊥

-- a text is a term
abbrev pub SpellsTerm : List ℕ → Term → Type 0
SpellsTerm text t = (payload : List ℕ) × Encodes text payload × SpellsTermPayload payload t

-- what reading a term answers
abbrev pub ReadsTerm : List ℕ → Result Term ClientError → Type 0
ReadsTerm text (Ok t) = SpellsTerm text t
ReadsTerm text (Err InvalidArguments) = (t : Term) → ¬ SpellsTerm text t
ReadsTerm text (Err OutOfMemory) = Unit {0}
ReadsTerm text (Err _) = ⊥

-- an answer other than this term is want of memory
abbrev pub GivesTerm : Term → Result Term ClientError → Type 0
GivesTerm t (Ok found) = found ≡ t
GivesTerm t (Err OutOfMemory) = Unit {0}
GivesTerm t (Err _) = ⊥
