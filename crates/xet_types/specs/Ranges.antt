-- Ranges: their texts, their conversions, and what reading one answers.
use Rattle.std.specs.Prelude.{◌≡◌, ◌≤◌, ◌<◌, ◌+◌, ◌-◌, ◌^◌, ◌==◌, ◌++◌, ℕ, List, min, codes, decimal, Option, MatchOption, Result, Ok, Err}
use Rattle.std.specs.List.{Contains, before_first, after_first}
use Rattle.std.specs.Str.Parse.{IsNumeral, digits_value, without_leading_plus}
use Rattle.xet_types.specs.declared.range.Range.{Range}
use Rattle.xet_types.specs.declared.range._F.{_F}
use Rattle.xet_types.specs.declared.range._H.{_H}
use Rattle.xet_types.specs.declared.range.RangeParseError.{RangeParseError}
use Rattle.xet_types.specs.declared.range.RangeParseError.TheVariants.{InvalidFormat, ParseError}

-- the range from a start to an end
abbrev pub interval : {K : Type 0} → ℕ → ℕ → Range ℕ K
interval start end = record { start = start; end = end; _marker = record {} }

-- the greatest place in a file
abbrev pub last_place : ℕ
last_place = 2 ^ 64 - 1

-- the same bytes with an end that is excluded, as far as the type reaches
abbrev pub file_range_of : Range ℕ _H → Range ℕ _F
file_range_of r = interval r.start (min (r.end + 1) last_place)

-- the same bytes with an end that is included; an end of 0 stays
abbrev pub http_range_of : Range ℕ _F → Range ℕ _H
http_range_of r = interval r.start (r.end - 1)

-- the end of the first bytes, of this size
abbrev pub segment_end : Range ℕ _F → ℕ → ℕ
segment_end r size = min r.end (min (r.start + size) last_place)

-- a range is its first part, and the rest if there is one
pub record IsJoined (first : Range ℕ _F) (rest : Option (Range ℕ _F)) (whole : Range ℕ _F) : Type 0 where
  pub begins : first.start ≡ whole.start
  pub forward : first.start ≤ first.end
  pub meets : MatchOption rest (first.end ≡ whole.end) (λ r. (r.start ≡ first.end) × (r.end ≡ whole.end) × (r.start < r.end))

-- the text of a range
abbrev pub range_text : {K : Type 0} → Range ℕ K → List ℕ
range_text r = decimal r.start ++ codes "-" ++ decimal r.end

-- the value of a range header (RFC 7233 2.1)
abbrev pub range_header_text : Range ℕ _H → List ℕ
range_header_text r = codes "bytes=" ++ range_text r

-- a dash stands in the text
abbrev pub HasDash : List ℕ → Type 0
HasDash text = Contains text 45

-- what stands before and after the first dash
abbrev pub before_dash : List ℕ → List ℕ
before_dash text = before_first (λ b. b == 45) text

abbrev pub after_dash : List ℕ → List ℕ
after_dash text = after_first (λ b. b == 45) text

-- decimal digits, after a plus or none, of a number below 2 ^ bits
abbrev pub IsNumber : ℕ → List ℕ → Type 0
IsNumber bits text = IsNumeral 10 (without_leading_plus text) × (digits_value 10 (without_leading_plus text) < 2 ^ bits)

-- the number that they write
abbrev pub number_value : List ℕ → ℕ
number_value text = digits_value 10 (without_leading_plus text)

-- what reading a range of numbers of so many bits answers
abbrev pub ReadsRange : {K : Type 0} → ℕ → List ℕ → Result (Range ℕ K) RangeParseError → Type 0
ReadsRange bits text (Ok r) = HasDash text × IsNumber bits (before_dash text) × IsNumber bits (after_dash text) × (r ≡ interval (number_value (before_dash text)) (number_value (after_dash text)))
ReadsRange bits text (Err InvalidFormat) = ¬ HasDash text
ReadsRange bits text (Err ParseError) = HasDash text × ¬ (IsNumber bits (before_dash text) × IsNumber bits (after_dash text))
