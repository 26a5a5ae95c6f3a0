-- What the code that cuts a body into parts owes.
use Rattle.std.specs.Prelude.{◌≡◌, ◌≤◌, ◌-◌, ℕ, Bool, true, false, ◌&&◌, ◌==◌, List, [], ◌∷◌, length, Result, Ok, Err}
use Rattle.std.specs.List.{concat}
use Rattle.xet_types.specs.declared.record.XorbRangeDescriptor.{XorbRangeDescriptor}
use Rattle.xet_types.specs.declared.error.Refusal.{Refusal}
use Rattle.xet_types.specs.declared.error.Refusal.TheVariants.{FormatError, Other}
use Rattle.xet_types.specs.declared.error.FormatFault.TheVariants as faults
use Rattle.xet_store.specs.StoreModel.{Chunks}
use Rattle.xet_wire.specs.Multipart.{Part}
use Rattle.xet_service.specs.declared.reader.held.HeldTerm.{HeldTerm}
use Rattle.xet_service.specs.declared.reader.link.ReadLink.{ReadLink}
use Rattle.xet_service.specs.Reading.{Reading, bytes_in, fits, Gives, take_link, bytes_read, IsReadInParts, AreSized, AreAllWhole}

-- the part is of the range's bytes
abbrev pub is_of : XorbRangeDescriptor → Part → Bool
is_of r p = (p.range.start == r.bytes.start) && (p.range.end == r.bytes.end)

-- the parts are of the ranges' bytes, in order
abbrev pub are_of : List XorbRangeDescriptor → List Part → Bool
are_of [] [] = true
are_of [] (p ∷ ps) = false
are_of (r ∷ rs) [] = false
are_of (r ∷ rs) (p ∷ ps) = is_of r p && are_of rs ps

-- there is a part for each range, and it is as long as the range
abbrev pub are_sized : List XorbRangeDescriptor → List (List ℕ) → Bool
are_sized [] [] = true
are_sized [] (p ∷ ps) = false
are_sized (r ∷ rs) [] = false
are_sized (r ∷ rs) (p ∷ ps) = (bytes_in r.bytes == length p) && are_sized rs ps

-- a body in parts, whose parts are those of these ranges
abbrev pub CutsApart : List XorbRangeDescriptor → List ℕ → List ℕ → Result (List (List ℕ)) Refusal → Type 0
CutsApart ranges content_type body (Ok parts) = IsReadInParts ranges content_type body parts
CutsApart ranges content_type body (Err Other) = (parts : List (List ℕ)) → IsReadInParts ranges content_type body parts → ⊥
CutsApart ranges content_type body (Err why) = ⊥

-- the chunks of each part
abbrev pub ReadsParts : List (List ℕ) → Result (List Chunks) Refusal → Type 0
ReadsParts parts (Ok got) = AreAllWhole parts got
ReadsParts parts (Err (FormatError faults.Xorb)) = (got : List Chunks) → AreAllWhole parts got → ⊥
ReadsParts parts (Err why) = ⊥

-- what parts bring of a link, however they were cut of a body
abbrev pub BringsCut : ReadLink → List (List ℕ) → Result (List Chunks) Refusal → Type 0
BringsCut link parts (Ok got) = AreSized link.ranges parts × (AreAllWhole parts got × (fits link.ranges link.held got ≡ true))
BringsCut link parts (Err Other) = AreSized link.ranges parts → ⊥
BringsCut link parts (Err (FormatError faults.Xorb)) = AreSized link.ranges parts × ((got : List Chunks) → AreAllWhole parts got → ⊥)
BringsCut link parts (Err (FormatError faults.Body)) = AreSized link.ranges parts × ((got : List Chunks) × (AreAllWhole parts got × (fits link.ranges link.held got ≡ false)))
BringsCut link parts (Err why) = ⊥

-- the first range of the link holds the term, which has all of so many chunks of it
abbrev pub TakesAll : HeldTerm → ℕ → ℕ → Type 0
TakesAll h link count = (h.range.link ≡ link) × ((h.range.number ≡ 0) × ((h.term.range.start ≤ h.range.chunks.start) × (count ≤ h.term.range.end - h.range.chunks.start)))

-- the link has one range, all of whose chunks the other term has, and the body is these chunks, with so many bytes
pub record BringsAlone (link : ReadLink) (other : HeldTerm) (body : List ℕ) (chunks : Chunks) (total : ℕ) : Type 0 where
  pub all : TakesAll other other.range.link (length chunks)
  pub brings : BringsCut link (body ∷ []) (Ok (chunks ∷ []))
  pub long : length (concat chunks) ≡ total

-- what is read, where the link of this number takes the body
pub record ReadsAtOnce (r : Reading) (n : ℕ) (content_type body text : List ℕ) : Type 0 where
  pub got : List Chunks
  pub gives : Gives r.links n content_type body (Ok got)
  pub read : text ≡ bytes_read (take_link r n got)
