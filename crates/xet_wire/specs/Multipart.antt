-- Bodies of several parts (RFC 7233 section 4.1): the boundary between them, what is written, and what reading one answers.
use Rattle.std.specs.Prelude.{◌≡◌, ◌≢◌, ◌++◌, ◌∷◌, [], ◌⊎◌, ◌<◌, ◌≤◌, ◌-◌, ◌^◌, ◌==◌, ◌&&◌, if◌then◌else◌, ℕ, Bool, List, map, length, replicate, take, drop, codes, decimal, Result, Ok, Err}
use Rattle.std.specs.Global.{Vec}
use Rattle.std.specs.List.{All, Contains, filter, flat_map, onto_first, prefix_len, slice_split, suffix_len}
use Rattle.std.specs.List.Sorted.{IsNonDecreasingBy}
use Rattle.std.specs.Str.{IsUtf8, str_to_ascii_lowercase, trim}
use Rattle.xet_types.specs.declared.error.ClientError.{ClientError}
use Rattle.xet_types.specs.declared.error.ClientError.TheVariants.{Other, OutOfMemory}
use Rattle.xet_types.specs.declared.range.Range.{Range}
use Rattle.xet_types.specs.declared.range._F.{_F}
use Rattle.xet_types.specs.declared.range._H.{_H}
use Rattle.xet_types.specs.Ranges.{http_range_of, range_text}
use Rattle.xet_wire.specs.Texts.{IsCutAtFirst, IsRangeOf}

-- a part of a body: a range of bytes, whose end is included, and what the part holds of it
pub record Part : Type 0 where
  pub range : Range ℕ _H
  pub content : List ℕ

abbrev pub part : Range ℕ _H → List ℕ → Part
part range content = record { range = range; content = content }

-- the part that is written of a range whose end is excluded, and its bytes
abbrev pub part_of : Range ℕ _F × List ℕ → Part
part_of p = part (http_range_of p.0) p.1

abbrev pub content_of : Part → List ℕ
content_of p = p.content

-- TEXTS IN TEXTS

-- the word stands somewhere in the text
pub record StandsIn (word text : List ℕ) : Type 0 where
  pub before : List ℕ
  pub after : List ℕ
  pub parts : text ≡ before ++ (word ++ after)

-- the text is cut in two around the first place at which the word stands
pub record IsCutAround (word text before after : List ℕ) : Type 0 where
  pub parts : text ≡ before ++ (word ++ after)
  pub first : (b a : List ℕ) → text ≡ b ++ (word ++ a) → length before ≤ length b

-- the text up to the first such place and what follows it; the whole text, and nothing, where there is none
abbrev pub IsUpTo : List ℕ → List ℕ → List ℕ → List ℕ → Type 0
IsUpTo word text before after =
    IsCutAround word text before after
    ⊎ (¬ StandsIn word text × (before ≡ text) × (after ≡ []))

-- BOUNDARIES

-- the word stands in none of the parts
abbrev pub IsAbsent : List ℕ → List (List ℕ) → Type 0
IsAbsent word parts = All (λ part. ¬ StandsIn word part) parts

-- the boundary that is taken where it can be
abbrev pub fixed_boundary : List ℕ
fixed_boundary = codes "xet_multipart_boundary"

-- a number in 20 digits
abbrev pub twenty_digits : ℕ → List ℕ
twenty_digits n = replicate (20 - length (decimal n)) 48 ++ decimal n

-- the boundaries that stand in for it: the same, an underscore and a number in 20 digits
unfoldable pub numbered_boundary : ℕ → List ℕ
numbered_boundary n = codes "xet_multipart_boundary_" ++ twenty_digits n

-- the numbered boundary of the least number that stands in no part
pub record IsLeastNumbered (parts : List (List ℕ)) (boundary : List ℕ) : Type 0 where
  pub number : ℕ
  pub fits : number < 10 ^ 20
  pub text : boundary ≡ numbered_boundary number
  pub absent : IsAbsent boundary parts
  pub least : (k : ℕ) → k < number → ¬ IsAbsent (numbered_boundary k) parts

-- the boundary of some parts: the fixed one where it stands in none of them, else the least numbered one that does so
abbrev pub IsBoundaryOf : List (List ℕ) → List ℕ → Type 0
IsBoundaryOf parts boundary =
    ((boundary ≡ fixed_boundary) × IsAbsent fixed_boundary parts)
    ⊎ ((¬ IsAbsent fixed_boundary parts) × IsLeastNumbered parts boundary)

-- the list gains numbers of numbered boundaries that stand in the part, and then has all of them
pub record TakesNumbers (part : List ℕ) (old new : List ℕ) : Type 0 where
  pub gained : List ℕ
  pub is : new ≡ old ++ gained
  pub stand : All (λ n. StandsIn (numbered_boundary n) part) gained
  pub all : (n : ℕ) → n < 2 ^ 64 → StandsIn (numbered_boundary n) part → Contains gained n

-- WRITING

-- the end of a line
abbrev pub crlf : List ℕ
crlf = 13 ∷ 10 ∷ []

-- what stands before each part and after the last one: two dashes and the boundary
abbrev pub delimiter : List ℕ → List ℕ
delimiter boundary = 45 ∷ 45 ∷ boundary

-- the headers of a part: its range with an included end, and how many bytes there are in all
unfoldable pub headers_text : Range ℕ _H → ℕ → List ℕ
headers_text range total = codes "Content-Type: application/octet-stream" ++ (crlf ++ (codes "Content-Range: bytes " ++ (range_text range ++ 47 ∷ decimal total)))

-- a part as it is written: a delimiter, the headers, an empty line, the bytes, and the end of their line
abbrev pub part_text : List ℕ → ℕ → Part → List ℕ
part_text boundary total p = delimiter boundary ++ crlf ++ headers_text p.range total ++ crlf ++ crlf ++ p.content ++ crlf

-- the body of some parts; two dashes follow the last delimiter
abbrev pub multipart_text : List ℕ → ℕ → List Part → List ℕ
multipart_text boundary total parts = flat_map (part_text boundary total) parts ++ delimiter boundary ++ 45 ∷ 45 ∷ crlf

-- its content type
unfoldable pub content_type_text : List ℕ → List ℕ
content_type_text boundary = codes "multipart/byteranges; boundary=" ++ boundary

-- the content type and the body that are written of some parts
pub record WritesMultipart (parts : List Part) (total : ℕ) (content_type body : List ℕ) : Type 0 where
  pub boundary : List ℕ
  pub chosen : IsBoundaryOf (map content_of parts) boundary
  pub type : content_type ≡ content_type_text boundary
  pub text : body ≡ multipart_text boundary total parts

-- READING: THE BOUNDARY

abbrev pub is_quote : ℕ → Bool
is_quote b = b == 34

-- the text without the quotation marks at its start and at its end
abbrev pub without_first_quotes : List ℕ → List ℕ
without_first_quotes text = drop (prefix_len is_quote text) text

abbrev pub unquoted : List ℕ → List ℕ
unquoted text = let rest = without_first_quotes text in take (length rest - suffix_len is_quote rest) rest

-- the first of the pieces that, trimmed, begins with `boundary=` gives what follows, without the quotation marks around it
abbrev pub GivesBoundary : List (List ℕ) → List ℕ → Type 0
GivesBoundary [] boundary = ⊥
GivesBoundary (piece ∷ pieces) boundary =
    ((quoted : List ℕ) × (trim piece ≡ codes "boundary=" ++ quoted) × (boundary ≡ unquoted quoted))
    ⊎ (((quoted : List ℕ) → trim piece ≢ codes "boundary=" ++ quoted) × GivesBoundary pieces boundary)

-- the content type names the boundary, in one of the pieces between its semicolons
abbrev pub NamesBoundary : List ℕ → List ℕ → Type 0
NamesBoundary content_type boundary = GivesBoundary (slice_split (λ b. b == 59) content_type) boundary

-- READING: THE RANGE OF A PART

-- the lines of a text, with the ends of lines between them
abbrev pub lines_of : List ℕ → List (List ℕ)
lines_of [] = [] ∷ []
lines_of (b ∷ []) = (b ∷ []) ∷ []
lines_of (b ∷ c ∷ rest) = if (b == 13 && c == 10) then [] ∷ lines_of rest else onto_first b (lines_of (c ∷ rest))

-- a line is a header of this name, in any case, and its value
pub record IsHeader (name line value : List ℕ) : Type 0 where
  pub written : List ℕ
  pub cut : IsCutAtFirst 58 line written value
  pub same : str_to_ascii_lowercase written ≡ name

-- a value, trimmed, is this unit, in any case, a space and the rest
pub record IsInUnit (unit value rest : List ℕ) : Type 0 where
  pub written : List ℕ
  pub cut : IsCutAtFirst 32 (trim value) written rest
  pub same : str_to_ascii_lowercase written ≡ unit

-- the line tells bytes: what stands behind the unit
pub record TellsBytes (line rest : List ℕ) : Type 0 where
  pub value : List ℕ
  pub header : IsHeader (codes "content-range") line value
  pub unit : IsInUnit (codes "bytes") value rest

-- what stands behind the unit, trimmed, is a range, a slash and a total, which isn't looked at
pub record IsRangeOfTotal (text : List ℕ) (range : Range ℕ _H) : Type 0 where
  pub spelled : List ℕ
  pub total : List ℕ
  pub cut : IsCutAtFirst 47 (trim text) spelled total
  pub is : IsRangeOf spelled range

-- the first of the lines that tells bytes tells the range
abbrev pub TellsRange : List (List ℕ) → Range ℕ _H → Type 0
TellsRange [] range = ⊥
TellsRange (line ∷ lines) range =
    ((rest : List ℕ) × TellsBytes line rest × IsRangeOfTotal rest range)
    ⊎ (((rest : List ℕ) → ¬ TellsBytes line rest) × TellsRange lines range)

-- READING: THE PARTS

-- a text is a part: headers in UTF-8 that tell the range, an empty line, and the bytes
pub record SpellsPart (text : List ℕ) (p : Part) : Type 0 where
  pub headers : List ℕ
  pub cut : IsCutAround (crlf ++ crlf) text headers p.content
  pub utf8 : IsUtf8 headers
  pub tells : TellsRange (lines_of headers) p.range

-- the end of a line with a delimiter behind it, which ends a part
abbrev pub part_end : List ℕ → List ℕ
part_end boundary = crlf ++ delimiter boundary

-- a piece of a body, which is a part, and what is left behind its end
pub record TakesPart (end text : List ℕ) (p : Part) (after : List ℕ) : Type 0 where
  pub rest : List ℕ
  pub piece : List ℕ
  pub begins : text ≡ crlf ++ rest
  pub reaches : IsUpTo end rest piece after
  pub spelled : SpellsPart piece p

-- what follows a delimiter is these parts: the end of a line begins one, which reaches to the next part's end or to the body's; anything
-- else ends the list
abbrev pub ArePartsAfter : List ℕ → List ℕ → List Part → Type 0
ArePartsAfter end text [] = (rest : List ℕ) → text ≢ crlf ++ rest
ArePartsAfter end text (p ∷ parts) = (after : List ℕ) × TakesPart end text p after × ArePartsAfter end after parts

-- a body is these parts, in the order in which it has them: they follow its first delimiter
pub record SpellsMultipart (content_type body : List ℕ) (parts : List Part) : Type 0 where
  pub boundary : List ℕ
  pub named : NamesBoundary content_type boundary
  pub before : List ℕ
  pub after : List ℕ
  pub cut : IsCutAround (delimiter boundary) body before after
  pub are : ArePartsAfter (part_end boundary) after parts

-- READING: WHAT IT ANSWERS

-- what reading a part answers
abbrev pub ReadsPart : List ℕ → Result Part ClientError → Type 0
ReadsPart text (Ok p) = SpellsPart text p
ReadsPart text (Err (Other _)) = (p : Part) → ¬ SpellsPart text p
ReadsPart text (Err OutOfMemory) = Unit {0}
ReadsPart text (Err _) = ⊥

-- what reading the parts behind a delimiter answers
abbrev pub ReadsParts : List ℕ → List ℕ → Result (Vec Part) ClientError → Type 0
ReadsParts word text (Ok parts) = ArePartsAfter word text parts.items
ReadsParts word text (Err (Other _)) = (parts : List Part) → ¬ ArePartsAfter word text parts
ReadsParts word text (Err OutOfMemory) = Unit {0}
ReadsParts word text (Err _) = ⊥

-- a refusal for another cause, or want of memory
abbrev pub IsOther : ClientError → Type 0
IsOther (Other _) = Unit {0}
IsOther OutOfMemory = Unit {0}
IsOther _ = ⊥

abbrev pub start_of : Part → ℕ
start_of p = p.range.start

-- these parts in order of start, and those of one start in the order in which they are given
pub record IsByStart (given sorted : List Part) : Type 0 where
  pub rises : IsNonDecreasingBy start_of sorted
  pub same : (start : ℕ) → filter (λ p. start_of p == start) sorted ≡ filter (λ p. start_of p == start) given

-- a body is read as these parts: those that it has, in order of start
pub record IsReadAs (content_type body : List ℕ) (parts : List Part) : Type 0 where
  pub given : List Part
  pub spelled : SpellsMultipart content_type body given
  pub sorted : IsByStart given parts

-- what reading the parts of a body in its order answers
abbrev pub SpellsParts : List ℕ → List ℕ → Result (Vec Part) ClientError → Type 0
SpellsParts content_type body (Ok parts) = SpellsMultipart content_type body parts.items
SpellsParts content_type body (Err (Other _)) = (parts : List Part) → ¬ SpellsMultipart content_type body parts
SpellsParts content_type body (Err OutOfMemory) = Unit {0}
SpellsParts content_type body (Err _) = ⊥

-- what reading a body answers
abbrev pub ReadsMultipart : List ℕ → List ℕ → Result (Vec Part) ClientError → Type 0
ReadsMultipart content_type body (Ok parts) = IsReadAs content_type body parts.items
ReadsMultipart content_type body (Err (Other _)) = (parts : List Part) → ¬ SpellsMultipart content_type body parts
ReadsMultipart content_type body (Err OutOfMemory) = Unit {0}
ReadsMultipart content_type body (Err _) = ⊥

-- an answer other than these parts is want of memory
abbrev pub GivesParts : List Part → Result (Vec Part) ClientError → Type 0
GivesParts parts (Ok found) = found.items ≡ parts
GivesParts parts (Err OutOfMemory) = Unit {0}
GivesParts parts (Err _) = ⊥
