-- A client's open read: the links that are left, what a body brings, and the bytes that are put together.
use Rattle.std.specs.Prelude.{◌≡◌, ℕ, zero, suc, ◌+◌, ◌-◌, Bool, true, false, ◌&&◌, ◌==◌, List, [], ◌∷◌, map, length, drop, sum, min, is_none, is_some, slice_get, slice_set, slice_range, Option, Some, None, Result, Ok, Err, if◌then◌else◌, ◌⊎◌, refl}
use Rattle.std.specs.List.{flat_map, concat, sum_by}
use Rattle.std.specs.Coded.{Coded, code_by, coded×, coded_list, coded_option, coded_ℕ}
use Rattle.memchr.specs.Find.{OccursAt}
use Rattle.xet_types.specs.Ranges.{last_place}
use Rattle.xet_types.specs.declared.range.Range.{Range}
use Rattle.xet_types.specs.declared.range._H.{_H}
use Rattle.xet_types.specs.declared.record.XorbRangeDescriptor.{XorbRangeDescriptor}
use Rattle.xet_types.specs.declared.error.Refusal.{Refusal}
use Rattle.xet_types.specs.declared.error.Refusal.TheVariants.{FormatError, InvalidArguments, Other}
use Rattle.xet_types.specs.declared.error.FormatFault.TheVariants as faults
use Rattle.xet_xorb.specs.XorbBytes.{AreWholeChunks}
use Rattle.xet_wire.specs.Multipart.{Part, content_of, IsReadAs}
use Rattle.xet_store.specs.StoreModel.{Chunks}
use Rattle.xet_store.specs.Plans.{cut_to}
use Rattle.xet_service.specs.declared.reader.held.HeldTerm.{HeldTerm}
use Rattle.xet_service.specs.declared.reader.link.ReadLink.{ReadLink}
use Rattle.xet_service.specs.contracts.reader.held.HeldTerm.{the_row as term_row}
use Rattle.xet_service.specs.contracts.reader.link.ReadLink.{the_row as link_row}

-- A client's open read: its plan's terms, each with the chunk range that holds it; the plan's offset; the length of the asked
-- range; and the links, each with its chunk ranges, the terms that these hold, and once it was taken the chunks of each range.
pub record Reading : Type 0 where
  pub terms : List HeldTerm
  pub offset : ℕ
  pub length : Option ℕ
  pub links : List ReadLink

abbrev pub reading_code : Coded Reading
reading_code =
    code_by (List HeldTerm × (ℕ × (Option ℕ × List ReadLink))) (coded× (coded_list term_row.coded) (coded× coded_ℕ (coded× (coded_option coded_ℕ) (coded_list link_row.coded))))
    (λ r. (r.terms, (r.offset, (r.length, r.links)))) (λ p. record { terms = p.0; offset = p.1.0; length = p.1.1.0; links = p.1.1.1 }) (λ _. refl)

-- ---- which links are left

abbrev pub if_left : Option ReadLink → Option ReadLink
if_left None = None
if_left (Some link) = if is_none link.got then Some link else None

-- the link of this number, where it is left
abbrev pub left_link : List ReadLink → ℕ → Option ReadLink
left_link links n = if_left (slice_get links n)

abbrev pub is_link_left : List ReadLink → ℕ → Bool
is_link_left links n = is_some (left_link links n)

abbrev pub left_one : ReadLink → ℕ
left_one link = if is_none link.got then 1 else 0

-- how many links are left
abbrev pub count_left : List ReadLink → ℕ
count_left links = sum_by left_one links

abbrev pub with_got : List ReadLink → ℕ → Option ReadLink → List Chunks → List ReadLink
with_got links n None got = links
with_got links n (Some link) got = slice_set links n (record link { got = Some got })

-- with the chunks of the link of this number
abbrev pub take_link : Reading → ℕ → List Chunks → Reading
take_link r n got = record r { links = with_got r.links n (slice_get r.links n) got }

-- ---- what a body brings

-- multipart/byteranges (RFC 7233, 4.1)
abbrev pub multipart_type : List ℕ
multipart_type = 109 ∷ 117 ∷ 108 ∷ 116 ∷ 105 ∷ 112 ∷ 97 ∷ 114 ∷ 116 ∷ 47 ∷ 98 ∷ 121 ∷ 116 ∷ 101 ∷ 114 ∷ 97 ∷ 110 ∷ 103 ∷ 101 ∷ 115 ∷ []

-- a body of this content type has a part for each range
abbrev pub IsMultipart : List ℕ → Type 0
IsMultipart content_type = (place : ℕ) × OccursAt content_type multipart_type place

-- how many bytes lie in a range with an inclusive end
abbrev pub bytes_in : Range ℕ _H → ℕ
bytes_in r = min (r.end + 1 - r.start) last_place

-- the term's chunks, of those of the range that holds it
abbrev pub cut_of_range : HeldTerm → Chunks → Chunks
cut_of_range h chunks = slice_range chunks (h.term.range.start - h.range.chunks.start) (h.term.range.end - h.range.chunks.start)

-- they have the term's length
abbrev pub has_length : Chunks → HeldTerm → Bool
has_length chunks h = sum (map length (cut_of_range h chunks)) == h.term.unpacked_length

abbrev pub chunks_or_none : Option Chunks → Chunks
chunks_or_none None = []
chunks_or_none (Some chunks) = chunks

-- the chunks of the range of this number
abbrev pub nth_chunks : List Chunks → ℕ → Chunks
nth_chunks got n = chunks_or_none (slice_get got n)

-- each term's chunks, of those of the range that holds it, have its length
abbrev pub have_lengths : List Chunks → List HeldTerm → Bool
have_lengths got [] = true
have_lengths got (h ∷ hs) = has_length (nth_chunks got h.range.number) h && have_lengths got hs

-- each range has its number of chunks
abbrev pub have_counts : List XorbRangeDescriptor → List Chunks → Bool
have_counts [] [] = true
have_counts [] (c ∷ got) = false
have_counts (r ∷ rs) [] = false
have_counts (r ∷ rs) (c ∷ got) = (length c == r.chunks.end - r.chunks.start) && have_counts rs got

-- each range has its number of chunks, and those of each term have the term's length
abbrev pub fits : List XorbRangeDescriptor → List HeldTerm → List Chunks → Bool
fits ranges held got = have_counts ranges got && have_lengths got held

-- each part is whole chunks
abbrev pub AreAllWhole : List (List ℕ) → List Chunks → Type 0
AreAllWhole [] [] = Unit {0}
AreAllWhole [] (c ∷ got) = ⊥
AreAllWhole (p ∷ parts) [] = ⊥
AreAllWhole (p ∷ parts) (c ∷ got) = AreWholeChunks p c × AreAllWhole parts got

abbrev pub range_of_part : Part → Range ℕ _H
range_of_part p = p.range

abbrev pub range_bytes : XorbRangeDescriptor → Range ℕ _H
range_bytes r = r.bytes

-- The body is read as parts which, in order of start, are those of these ranges in order (RFC 7233, 4.1).
pub record IsReadInParts (ranges : List XorbRangeDescriptor) (content_type body : List ℕ) (parts : List (List ℕ)) : Type 0 where
  pub read : List Part
  pub is : IsReadAs content_type body read
  pub same : map range_of_part read ≡ map range_bytes ranges
  pub contents : parts ≡ map content_of read

-- where the content type says so, the body is in parts; else it is one
abbrev pub IsCutInto : List XorbRangeDescriptor → List ℕ → List ℕ → List (List ℕ) → Type 0
IsCutInto ranges content_type body parts = (IsMultipart content_type × IsReadInParts ranges content_type body parts) ⊎ ((IsMultipart content_type → ⊥) × (parts ≡ body ∷ []))

-- there is a part for each range, and it is as long as the range
abbrev pub AreSized : List XorbRangeDescriptor → List (List ℕ) → Type 0
AreSized ranges parts = map length parts ≡ map (λ (r : XorbRangeDescriptor). bytes_in r.bytes) ranges

-- the parts of a body for ranges
pub record HasParts (ranges : List XorbRangeDescriptor) (content_type body : List ℕ) (parts : List (List ℕ)) : Type 0 where
  pub cut : IsCutInto ranges content_type body parts
  pub sized : AreSized ranges parts

-- the body has parts for the link's ranges, each of which is whole chunks, and they fit
pub record Spells (link : ReadLink) (content_type body : List ℕ) (got : List Chunks) : Type 0 where
  pub parts : List (List ℕ)
  pub has : HasParts link.ranges content_type body parts
  pub whole : AreAllWhole parts got
  pub fit : fits link.ranges link.held got ≡ true

-- it has parts for them, not all of which are whole chunks
pub record IsBroken (link : ReadLink) (content_type body : List ℕ) : Type 0 where
  pub parts : List (List ℕ)
  pub has : HasParts link.ranges content_type body parts
  pub none : (got : List Chunks) → AreAllWhole parts got → ⊥

-- it has parts for them, which are whole chunks, and they don't fit
pub record IsMisfit (link : ReadLink) (content_type body : List ℕ) : Type 0 where
  pub parts : List (List ℕ)
  pub has : HasParts link.ranges content_type body parts
  pub got : List Chunks
  pub whole : AreAllWhole parts got
  pub misfit : fits link.ranges link.held got ≡ false

-- What a body brings of a link: the chunks of each range.
abbrev pub Brings : ReadLink → List ℕ → List ℕ → Result (List Chunks) Refusal → Type 0
Brings link content_type body (Ok got) = Spells link content_type body got
Brings link content_type body (Err Other) = (parts : List (List ℕ)) → HasParts link.ranges content_type body parts → ⊥
Brings link content_type body (Err (FormatError faults.Xorb)) = IsBroken link content_type body
Brings link content_type body (Err (FormatError faults.Body)) = IsMisfit link content_type body
Brings link content_type body (Err e) = ⊥

abbrev pub BringsTo : Option ReadLink → List ℕ → List ℕ → Result (List Chunks) Refusal → Type 0
BringsTo None content_type body r = r ≡ Err InvalidArguments
BringsTo (Some link) content_type body r = Brings link content_type body r

-- a body for the link of this number gives these chunks, or is refused so
abbrev pub Gives : List ReadLink → ℕ → List ℕ → List ℕ → Result (List Chunks) Refusal → Type 0
Gives links n content_type body r = BringsTo (left_link links n) content_type body r

-- A link that is left takes the chunks that the body spells; a refused body changes nothing.
abbrev pub Accepts : Reading → ℕ → List ℕ → List ℕ → Result (Unit {0}) Refusal → Reading → Type 0
Accepts old n content_type body (Ok done) new = (got : List Chunks) × (Gives old.links n content_type body (Ok got) × (new ≡ take_link old n got))
Accepts old n content_type body (Err why) new = Gives old.links n content_type body (Err why) × (new ≡ old)

-- ---- the bytes that were read

abbrev pub got_of_range : Option (List Chunks) → ℕ → Chunks
got_of_range None n = []
got_of_range (Some got) n = nth_chunks got n

-- what a link brought of its range of this number
abbrev pub got_of_link : Option ReadLink → ℕ → Chunks
got_of_link None n = []
got_of_link (Some link) n = got_of_range link.got n

abbrev pub got_for : List ReadLink → HeldTerm → Chunks
got_for links h = got_of_link (slice_get links h.range.link) h.range.number

-- the term's chunks joined
abbrev pub held_text : List ReadLink → HeldTerm → List ℕ
held_text links h = concat (cut_of_range h (got_for links h))

-- the terms' chunks joined, less the offset, cut to the range
abbrev pub bytes_read : Reading → List ℕ
bytes_read r = cut_to r.length (drop r.offset (flat_map (held_text r.links) r.terms))
