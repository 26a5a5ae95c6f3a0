-- Range headers (RFC 7233 section 2.1): which value means what, and the one text of a list of ranges.
use Rattle.std.specs.Prelude.{◌≡◌, ◌++◌, ◌∷◌, [], ◌+◌, ◌<◌, ◌≤◌, ℕ, List, codes, Option, Some, None, Result, Ok, Err}
use Rattle.xet_types.specs.declared.range.Range.{Range}
use Rattle.xet_types.specs.declared.range._H.{_H}
use Rattle.xet_types.specs.Ranges.{interval, last_place}
use Rattle.xet_wire.specs.declared.header.FileRangeVariant.{FileRangeVariant}
use Rattle.xet_wire.specs.declared.header.FileRangeVariant.TheVariants.{Normal, OpenRHS, Suffix}
use Rattle.xet_wire.specs.declared.header.BadRangeHeader.{BadRangeHeader}
use Rattle.xet_wire.specs.Texts.{IsNumberOf, ranges_text}

-- what two texts around a dash ask for: numbers from the first to the second, from a number on, or so many at the end
abbrev pub Asks : List ℕ → List ℕ → FileRangeVariant → Type 0
Asks start end (Normal r) = (last : ℕ) × IsNumberOf start r.start × IsNumberOf end last × (r.start ≤ last) × (last < last_place) × (r.end ≡ last + 1)
Asks start end (OpenRHS n) = IsNumberOf start n × (end ≡ [])
Asks start end (Suffix n) = (start ≡ []) × IsNumberOf end n

-- a header's value means a range
pub record Means (value : List ℕ) (asked : FileRangeVariant) : Type 0 where
  pub start : List ℕ
  pub end : List ℕ
  pub parts : value ≡ codes "bytes=" ++ (start ++ 45 ∷ end)
  pub asks : Asks start end asked

-- what reading a header's value answers
abbrev pub ReadsHeader : Option (List ℕ) → Result (Option FileRangeVariant) BadRangeHeader → Type 0
ReadsHeader None result = result ≡ Ok None
ReadsHeader (Some value) (Ok None) = ⊥
ReadsHeader (Some value) (Ok (Some asked)) = Means value asked
ReadsHeader (Some value) (Err _) = (asked : FileRangeVariant) → ¬ Means value asked

-- the value that names a list of ranges
unfoldable pub header_text : List (Range ℕ _H) → List ℕ
header_text ranges = codes "bytes=" ++ ranges_text ranges

-- a list is one range, whose start is at most its end, which is below the type's last place
abbrev pub IsOne : List (Range ℕ _H) → FileRangeVariant → Type 0
IsOne (r ∷ []) (Normal asked) = (r.start ≤ r.end) × (r.end < last_place) × (asked ≡ interval r.start (r.end + 1))
IsOne ranges asked = ⊥
