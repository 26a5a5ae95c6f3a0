-- Links: the grammar of each version, the one text that is written, and what reading one answers.
use Rattle.std.specs.Prelude.{◌≡◌, ◌++◌, ◌∷◌, ◌⊎◌, ℕ, List, decimal, Result, Ok, Err}
use Rattle.hex.specs.Hex.{encode_lower}
use Rattle.std.specs.Global.{Vec}
use Rattle.xet_types.specs.declared.error.ClientError.{ClientError}
use Rattle.xet_types.specs.declared.error.ClientError.TheVariants.{InvalidArguments, OutOfMemory}
use Rattle.xet_types.specs.declared.range.Range.{Range}
use Rattle.xet_types.specs.declared.range._F.{_F}
use Rattle.xet_types.specs.declared.range._H.{_H}
use Rattle.xet_types.specs.declared.record.XorbRangeDescriptor.{XorbRangeDescriptor}
use Rattle.xet_wire.specs.Texts.{AreFields, IsHashOf, IsHashThen, IsNumberOf, IsNumberThen, ListsRanges, ranges_text}
use Rattle.xet_wire.specs.Payloads.{Encodes}

-- the text of a link of version 1: the hash, where the bytes begin, where they end, which is excluded, and the moment
unfoldable pub link_text : List ℕ → ℕ → ℕ → ℕ → List ℕ
link_text hash start end at = encode_lower hash ++ (58 ∷ decimal start) ++ (58 ∷ decimal end) ++ (58 ∷ decimal at)

-- a text is a link of version 1: a hash and three numbers, with colons between them
pub record SpellsFirstLink (text hash : List ℕ) (range : Range ℕ _F) (at : ℕ) : Type 0 where
  pub digits : List ℕ
  pub start : List ℕ
  pub end : List ℕ
  pub moment : List ℕ
  pub parts : AreFields text digits start end moment
  pub is_hash : IsHashOf digits hash
  pub is_start : IsNumberOf start range.start
  pub is_end : IsNumberOf end range.end
  pub is_moment : IsNumberOf moment at

-- what reading a link of version 1 answers
abbrev pub ReadsFirstLink : List ℕ → Result (List ℕ × Range ℕ _F × ℕ) ClientError → Type 0
ReadsFirstLink text (Ok link) = SpellsFirstLink text link.0 link.1 link.2
ReadsFirstLink text (Err InvalidArguments) = (hash : List ℕ) (range : Range ℕ _F) (at : ℕ) → ¬ SpellsFirstLink text hash range at
ReadsFirstLink text (Err _) = ⊥

-- the bytes of a run of chunks, with an inclusive end
abbrev pub bytes_of : XorbRangeDescriptor → Range ℕ _H
bytes_of d = d.bytes

-- the payload of a link of version 2: the hash, the moment, and ranges with inclusive ends
unfoldable pub link_payload : List ℕ → ℕ → List (Range ℕ _H) → List ℕ
link_payload hash at ranges = encode_lower hash ++ (58 ∷ decimal at) ++ (58 ∷ ranges_text ranges)

-- a payload is that of a link of version 2: a hash, a number and ranges, with colons between them
pub record SpellsLinkPayload (payload hash : List ℕ) (at : ℕ) (ranges : List (Range ℕ _H)) : Type 0 where
  pub rest : List ℕ
  pub list : List ℕ
  pub is_hash : IsHashThen payload hash rest
  pub is_moment : IsNumberThen rest at list
  pub is_list : ListsRanges list ranges

-- what reading such a payload answers
abbrev pub ReadsLinkPayload : List ℕ → Result (List ℕ × ℕ × Vec (Range ℕ _H)) ClientError → Type 0
ReadsLinkPayload payload (Ok link) = SpellsLinkPayload payload link.0 link.1 link.2.items
ReadsLinkPayload payload (Err InvalidArguments) = (hash : List ℕ) (at : ℕ) (ranges : List (Range ℕ _H)) → ¬ SpellsLinkPayload payload hash at ranges
ReadsLinkPayload payload (Err OutOfMemory) = Unit {0}
ReadsLinkPayload payload (Err _) = ⊥

-- a text is a link of version 2
abbrev pub SpellsSecondLink : List ℕ → List ℕ → ℕ → List (Range ℕ _H) → Type 0
SpellsSecondLink text hash at ranges = (payload : List ℕ) × Encodes text payload × SpellsLinkPayload payload hash at ranges

-- what reading a link of version 2 answers
abbrev pub ReadsSecondLink : List ℕ → Result (List ℕ × ℕ × Vec (Range ℕ _H)) ClientError → Type 0
ReadsSecondLink text (Ok link) = SpellsSecondLink text link.0 link.1 link.2.items
ReadsSecondLink text (Err InvalidArguments) = (hash : List ℕ) (at : ℕ) (ranges : List (Range ℕ _H)) → ¬ SpellsSecondLink text hash at ranges
ReadsSecondLink text (Err OutOfMemory) = Unit {0}
ReadsSecondLink text (Err _) = ⊥

-- an answer other than this link is want of memory
abbrev pub GivesSecondLink : List ℕ → ℕ → List (Range ℕ _H) → Result (List ℕ × ℕ × Vec (Range ℕ _H)) ClientError → Type 0
GivesSecondLink hash at ranges (Ok link) = (link.0 ≡ hash) × (link.1 ≡ at) × (link.2.items ≡ ranges)
GivesSecondLink hash at ranges (Err OutOfMemory) = Unit {0}
GivesSecondLink hash at ranges (Err _) = ⊥

-- a text is a link of version 1, or it is none, but one of version 2
abbrev pub SpellsLink : List ℕ → List ℕ → ℕ → Type 0
SpellsLink text hash at =
    ((range : Range ℕ _F) × SpellsFirstLink text hash range at)
    ⊎ (((h : List ℕ) (r : Range ℕ _F) (m : ℕ) → ¬ SpellsFirstLink text h r m) × ((ranges : List (Range ℕ _H)) × SpellsSecondLink text hash at ranges))

-- what reading a link of either version answers
abbrev pub ReadsLink : List ℕ → Result (List ℕ × ℕ) ClientError → Type 0
ReadsLink text (Ok link) = SpellsLink text link.0 link.1
ReadsLink text (Err InvalidArguments) = (hash : List ℕ) (at : ℕ) → ¬ SpellsLink text hash at
ReadsLink text (Err OutOfMemory) = Unit {0}
ReadsLink text (Err _) = ⊥

-- an answer other than this hash and moment is want of memory
abbrev pub GivesLink : List ℕ → ℕ → Result (List ℕ × ℕ) ClientError → Type 0
GivesLink hash at (Ok link) = (link.0 ≡ hash) × (link.1 ≡ at)
GivesLink hash at (Err OutOfMemory) = Unit {0}
GivesLink hash at (Err _) = ⊥
