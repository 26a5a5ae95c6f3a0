-- The parts of a body that is written of ranges of a xorb are the bytes of these ranges.
use Rattle.std.specs.Prelude.{codes, slice_index}
use Rattle.std.proofs.Common.{◌≡◌, ◌∙◌, ℕ, zero, suc, ◌+◌, ◌-◌, ◌<◌, ◌≤◌, ltb, leb, true, List, [], ◌∷◌, ◌++◌, length, map, drop, min, get_or, refl, sym, ap, subst, arith, inl, inr}
use Rattle.std.specs.List.{AllByRecursion}
use Rattle.std.specs.List.Sorted.{IsNonDecreasingBy}
use Rattle.std.proofs.lemmas.Bool.{and_parts, ltb-true, leb-true}
use Rattle.std.proofs.lemmas.List.{length-take, length-drop, length-append}
use Rattle.memchr.specs.Find.{OccursAt}
use Rattle.xet_types.specs.Ranges.{last_place, file_range_of, http_range_of}
use Rattle.xet_types.specs.declared.range.Range.{Range}
use Rattle.xet_types.specs.declared.range._F.{_F}
use Rattle.xet_types.specs.declared.range._H.{_H}
use Rattle.xet_types.specs.declared.record.XorbRangeDescriptor.{XorbRangeDescriptor}
use Rattle.xet_xorb.specs.XorbBytes.{xorb_bytes}
use Rattle.xet_wire.specs.Multipart.{Part, content_of, start_of, IsReadAs, IsByStart, content_type_text}
use Rattle.xet_wire.proofs.MultipartOnce.{spells_once, by_start_once}
use Rattle.xet_store.specs.StoreModel.{Chunks}
use Rattle.xet_service.specs.Bodies.{Body, type_text, lies_in, all_lie_in, bytes_at, part_at, IsInParts, IsBodyOf}
use Rattle.xet_service.specs.Reading.{multipart_type, IsMultipart, bytes_in, range_of_part, range_bytes, IsCutInto, AreSized, HasParts}
use Rattle.xet_service.specs.World.{RisesFrom}
use Rattle.xet_service.specs.Steps.{asked_bytes}

-- ---- a body has its parts in one way

read_once : (content_type body : List ℕ) (ps qs : List Part) → IsReadAs content_type body ps → IsReadAs content_type body qs → ps ≡ qs
read_once content_type body ps qs h g =
    let same : h.given ≡ g.given = spells_once content_type body h.given g.given h.spelled g.spelled in
    by_start_once g.given ps qs (subst (λ (xs : List Part). IsByStart xs ps) same h.sorted) g.sorted

pub cut_once : (rs : List XorbRangeDescriptor) (content_type body : List ℕ) (p q : List (List ℕ)) → IsCutInto rs content_type body p → IsCutInto rs content_type body q → p ≡ q
cut_once rs content_type body p q (inl h) (inl g) = h.1.contents ∙ ap (map content_of) (read_once content_type body h.1.read g.1.read h.1.is g.1.is) ∙ sym g.1.contents
cut_once rs content_type body p q (inl h) (inr g) = absurd (g.0 h.0)
cut_once rs content_type body p q (inr h) (inl g) = absurd (h.0 g.0)
cut_once rs content_type body p q (inr h) (inr g) = h.1 ∙ sym g.1

pub parts_once : (rs : List XorbRangeDescriptor) (content_type body : List ℕ) (p q : List (List ℕ)) → HasParts rs content_type body p → HasParts rs content_type body q → p ≡ q
parts_once rs content_type body p q h g = cut_once rs content_type body p q h.cut g.cut

-- ---- the lengths of parts

no_parts : (place : ℕ) → OccursAt [] multipart_type place → ⊥
no_parts place h = let no : ⊥ = omega (arith, h.fits) in no

-- the bytes of a range are as many as it says
pub piece_sized : (chunks : Chunks) (r : XorbRangeDescriptor) → r.bytes.end < last_place → lies_in chunks (file_range_of r.bytes) ≡ true → length (bytes_at chunks (file_range_of r.bytes)) ≡ bytes_in r.bytes
piece_sized chunks r below e =
    let q = file_range_of r.bytes in
    let text = xorb_bytes chunks in
    let both = and_parts (ltb q.start q.end) (leb q.end (length text)) e in
    let some = ltb-true q.start q.end both.0 in
    let inside = leb-true q.end (length text) both.1 in
    let cut : length (bytes_at chunks q) ≡ min (q.end - q.start) (length (drop q.start text)) = length-take (q.end - q.start) (drop q.start text) in
    let rest = length-drop q.start text in
    omega (arith, cut, rest, some, inside, below)

pub pieces_sized : (chunks : Chunks) (rs : List XorbRangeDescriptor) → AllByRecursion (λ (r : XorbRangeDescriptor). r.bytes.end < last_place) rs → all_lie_in chunks (asked_bytes rs) ≡ true → AreSized rs (map (bytes_at chunks) (asked_bytes rs))
pieces_sized chunks [] below e = refl
pieces_sized chunks (r ∷ rs) below e =
    let both = and_parts (lies_in chunks (file_range_of r.bytes)) (all_lie_in chunks (asked_bytes rs)) e in
    rw (piece_sized chunks r below.0 both.0, pieces_sized chunks rs below.1 both.1) refl

-- ---- parts that are written

-- a range is that of its part
range_back : (r : Range ℕ _H) → r.end < last_place → http_range_of (file_range_of r) ≡ r
range_back r below = let end : min (r.end + 1) last_place - 1 ≡ r.end = omega (arith, below) in rw end refl

ranges_back : (chunks : Chunks) (rs : List XorbRangeDescriptor) → AllByRecursion (λ (r : XorbRangeDescriptor). r.bytes.end < last_place) rs → map range_of_part (map (part_at chunks) (asked_bytes rs)) ≡ map range_bytes rs
ranges_back chunks [] below = refl
ranges_back chunks (r ∷ rs) below =
    ap (λ (q : Range ℕ _H). q ∷ map range_of_part (map (part_at chunks) (asked_bytes rs))) (range_back r.bytes below.0)
    ∙ ap (λ (qs : List (Range ℕ _H)). r.bytes ∷ qs) (ranges_back chunks rs below.1)

contents_are : (chunks : Chunks) (qs : List (Range ℕ _F)) → map (bytes_at chunks) qs ≡ map content_of (map (part_at chunks) qs)
contents_are chunks [] = refl
contents_are chunks (q ∷ qs) = ap (λ (ps : List (List ℕ)). bytes_at chunks q ∷ ps) (contents_are chunks qs)

-- all later parts begin no earlier
low : (chunks : Chunks) (from : ℕ) (rs : List XorbRangeDescriptor) → RisesFrom from rs → (j : ℕ) (d : Part) → j < length (map (part_at chunks) (asked_bytes rs)) → from ≤ start_of (get_or (map (part_at chunks) (asked_bytes rs)) j d)
low chunks from [] r j d l = absurd (omega (arith, l))
low chunks from (x ∷ rs) r zero d l = r.0
low chunks from (x ∷ rs) r (suc j) d l = let more = low chunks x.bytes.start rs r.1 j d (omega (arith, l)) in omega (arith, more, r.0)

by_start : (chunks : Chunks) (from : ℕ) (rs : List XorbRangeDescriptor) → RisesFrom from rs → IsNonDecreasingBy start_of (map (part_at chunks) (asked_bytes rs))
by_start chunks from [] r i j d le lt = absurd (omega (arith, lt))
by_start chunks from (x ∷ rs) r zero zero d le lt = omega arith
by_start chunks from (x ∷ rs) r zero (suc j) d le lt = low chunks x.bytes.start rs r.1 j d (omega (arith, lt))
by_start chunks from (x ∷ rs) r (suc i) zero d le lt = absurd (omega (arith, le))
by_start chunks from (x ∷ rs) r (suc i) (suc j) d le lt = by_start chunks x.bytes.start rs r.1 i j d (omega (arith, le)) (omega (arith, lt))

type_front : (word rest : List ℕ) (j : ℕ) → j < length word → slice_index (word ++ rest) j ≡ slice_index word j
type_front [] rest j l = absurd (omega (arith, l))
type_front (x ∷ word) rest zero l = refl
type_front (x ∷ word) rest (suc j) l = type_front word rest j (omega (arith, l))

-- what stands behind it in the content type of parts
abbrev pub type_end : List ℕ
type_end = codes "; boundary="

type_text_is : (boundary : List ℕ) → content_type_text boundary ≡ multipart_type ++ (type_end ++ boundary)
unfolding content_type_text
type_text_is boundary = refl

type_occurs : (boundary : List ℕ) → OccursAt (content_type_text boundary) multipart_type 0
type_occurs boundary = subst (λ (t : List ℕ). OccursAt t multipart_type 0) (sym (type_text_is boundary)) (record {
  fits = let long = length-append multipart_type (type_end ++ boundary) in omega (arith, long);
  reads = λ j l. ap (slice_index (multipart_type ++ (type_end ++ boundary))) (let z : 0 + j ≡ j = omega arith in z) ∙ type_front multipart_type (type_end ++ boundary) j l;
})

-- the content type of parts says so
typed_so : (content_type boundary : List ℕ) → content_type ≡ content_type_text boundary → IsMultipart content_type
typed_so content_type boundary is = (0, subst (λ (t : List ℕ). OccursAt t multipart_type 0) (sym is) (type_occurs boundary))

module _ (chunks : Chunks) (rs : List XorbRangeDescriptor) (rises : RisesFrom 0 rs) (below : AllByRecursion (λ (r : XorbRangeDescriptor). r.bytes.end < last_place) rs) (inside : all_lie_in chunks (asked_bytes rs) ≡ true) where
  in_parts : (body : Body) → IsInParts chunks (asked_bytes rs) body → HasParts rs (type_text body.content_type) body.bytes (map (bytes_at chunks) (asked_bytes rs))
  in_parts body h = subst (λ (t : List ℕ). HasParts rs t body.bytes (map (bytes_at chunks) (asked_bytes rs))) (sym (ap type_text h.typed)) (record {
    cut = inl (
      typed_so h.content_type h.written.boundary h.written.type,
      record {
        read = map (part_at chunks) (asked_bytes rs);
        is = record { given = map (part_at chunks) (asked_bytes rs); spelled = h.spelled; sorted = record { rises = by_start chunks 0 rs rises; same = λ start. refl } };
        same = ranges_back chunks rs below;
        contents = contents_are chunks (asked_bytes rs);
      },
    );
    sized = pieces_sized chunks rs below inside;
  })

-- a body of ranges in order has the bytes of these ranges as its parts
pub written_parts : (chunks : Chunks) (rs : List XorbRangeDescriptor) → RisesFrom 0 rs → AllByRecursion (λ (r : XorbRangeDescriptor). r.bytes.end < last_place) rs → all_lie_in chunks (asked_bytes rs) ≡ true → (body : Body) → IsBodyOf chunks (asked_bytes rs) body
    → HasParts rs (type_text body.content_type) body.bytes (map (bytes_at chunks) (asked_bytes rs))
written_parts chunks [] rises below inside body h = in_parts chunks [] rises below inside body h
written_parts chunks (r ∷ []) rises below inside body h = subst (λ (b : Body). HasParts (r ∷ []) (type_text b.content_type) b.bytes (bytes_at chunks (file_range_of r.bytes) ∷ [])) (sym h) (record {
  cut = inr ((λ p. no_parts p.0 p.1), refl);
  sized = pieces_sized chunks (r ∷ []) below inside;
})
written_parts chunks (r ∷ (q ∷ rs)) rises below inside body h = in_parts chunks (r ∷ (q ∷ rs)) rises below inside body h
