-- What follows from a plan: it is the least, and its joined terms are the file's bytes.
use Rattle.std.proofs.Common.{◌≡◌, ◌∙◌, ℕ, ◌+◌, ◌-◌, ◌≤◌, List, [], length, drop, Option, Some, None, Ok, ap, arith, inl, inr}
use Rattle.std.specs.List.{flat_map}
use Rattle.std.proofs.lemmas.List.{length-drop}
use Rattle.std.proofs.lemmas.Bool.{cases_lt}
use Rattle.xet_types.specs.declared.range.Range.{Range}
use Rattle.xet_types.specs.declared.range._F.{_F}
use Rattle.xet_types.specs.declared.record.XorbReconstructionTerm.{XorbReconstructionTerm}
use Rattle.xet_shard.specs.declared.listing.Segment.{Segment}
use Rattle.xet_shard.specs.Values.{size_of}
use Rattle.xet_plan.specs.declared.place.Reach.TheVariants.{Within}
use Rattle.xet_plan.specs.Places.{Interval, Placed, Known, interval, reach, met_segments}
use Rattle.xet_plan.specs.MetChunks.{kept, term, terms_of, offset_of}
use Rattle.xet_plan.specs.Least.{IsLeast}
use Rattle.xet_plan.specs.FileBytes.{Content, Describes, asked_length, assembled, file_bytes, term_bytes}
use Rattle.xet_plan.specs.Plans.{PlanModel, TermsModel, terms_shown}
use Rattle.xet_plan.specs.Answers.{IsPlan, AreTerms, IsAssembled, PlansLeast, PlansBytes, TermsBytes, groups_of}
use Rattle.xet_plan.proofs.Bytes.{assembled_ok, kept_bytes, flat_map-map}
use Rattle.xet_plan.proofs.Left.{left_le, nothing_kept, take_more, asked_cases}
use Rattle.xet_plan.proofs.Least.{least_ok, reach_within}

pub plan_least : (known : Known) (segments : List Segment) (clip : Interval) (plan : PlanModel) → clip.end ≤ size_of segments → IsPlan known segments clip plan → IsLeast known segments clip (groups_of plan)
plan_least known segments clip plan within p = least_ok known segments clip (groups_of plan) within p.readable p.merged

terms_bytes : (known : Known) (segments : List Segment) (clip : Interval) (plan : TermsModel) → AreTerms known segments clip plan → (content : Content) → Describes known content
    → assembled content plan.terms plan.offset_into_first_range (clip.end - clip.start) ≡ file_bytes content clip segments
terms_bytes known segments clip plan p content f =
    ap (λ (ts : List XorbReconstructionTerm). assembled content ts plan.offset_into_first_range (clip.end - clip.start)) p.terms
    ∙ ap (λ (n : ℕ). assembled content (terms_of known clip segments) n (clip.end - clip.start)) p.offset
    ∙ assembled_ok known content clip segments f p.readable

pub plans_least : (known : Known) (segments : List Segment) (range : Option (Range ℕ _F)) (s e : ℕ) (plan : PlanModel) → reach (size_of segments) range ≡ Within s e → IsPlan known segments (interval s e) plan → PlansLeast known segments range (Ok (Some plan))
plans_least known segments range s e plan place p = rw place (plan_least known segments (interval s e) plan (reach_within (size_of segments) range s e place) p)

-- where the clip ends with the file, nothing more stands behind it
terms_end : (known : Known) (segments : List Segment) (clip : Interval) (plan : TermsModel) → AreTerms known segments clip plan → (content : Content) → Describes known content → clip.end ≡ size_of segments
    → length (drop plan.offset_into_first_range (flat_map (term_bytes content) plan.terms)) ≤ clip.end - clip.start
terms_end known segments clip plan p content f e =
    let ps = met_segments clip segments in
    let terms : flat_map (term_bytes content) plan.terms ≡ kept_bytes known content clip ps = ap (flat_map (term_bytes content)) p.terms ∙ flat_map-map (term_bytes content) (λ (q : Placed). term q.segment.xorb_hash (kept known clip q)) ps in
    let all : drop plan.offset_into_first_range (flat_map (term_bytes content) plan.terms) ≡ drop (offset_of known clip segments) (kept_bytes known content clip ps)
    = ap (λ (xs : List ℕ). drop plan.offset_into_first_range xs) terms ∙ ap (λ (n : ℕ). drop n (kept_bytes known content clip ps)) p.offset in
    elim (cases_lt clip.start clip.end) as (λ _. length (drop plan.offset_into_first_range (flat_map (term_bytes content) plan.terms)) ≤ clip.end - clip.start) [
      | inl o ↦ (let q : length (drop (offset_of known clip segments) (kept_bytes known content clip ps)) ≤ 0 + size_of segments - clip.start = left_le known content clip 0 segments f p.readable (omega arith) o in rw all (omega arith))
      | inr o ↦ (let none : kept_bytes known content clip ps ≡ [] = nothing_kept known content clip 0 segments o in
          let q : length (drop (offset_of known clip segments) (kept_bytes known content clip ps)) ≡ 0 = ap (λ (xs : List ℕ). length (drop (offset_of known clip segments) xs)) none ∙ length-drop (offset_of known clip segments) [] ∙ omega arith in
          rw all (omega arith))
    ]

terms_asked : (known : Known) (segments : List Segment) (range : Option (Range ℕ _F)) (clip : Interval) (plan : TermsModel) → reach (size_of segments) range ≡ Within clip.start clip.end → AreTerms known segments clip plan → (content : Content) → Describes known content
    → assembled content plan.terms plan.offset_into_first_range (asked_length range clip) ≡ file_bytes content clip segments
terms_asked known segments None clip plan place p content f = terms_bytes known segments clip plan p content f
terms_asked known segments (Some r) clip plan place p content f = elim (asked_cases (size_of segments) clip.start clip.end r place) as (λ _. assembled content plan.terms plan.offset_into_first_range (r.end - r.start) ≡ file_bytes content clip segments) [
  | inl e ↦ ap (λ (n : ℕ). assembled content plan.terms plan.offset_into_first_range n) e ∙ terms_bytes known segments clip plan p content f
  | inr e ↦ take_more (drop plan.offset_into_first_range (flat_map (term_bytes content) plan.terms)) (clip.end - clip.start) (r.end - r.start) (terms_end known segments clip plan p content f e.0) e.1 ∙ terms_bytes known segments clip plan p content f
]

pub all_terms_bytes : (known : Known) (segments : List Segment) (range : Option (Range ℕ _F)) (s e : ℕ) (plan : TermsModel) → reach (size_of segments) range ≡ Within s e → AreTerms known segments (interval s e) plan → TermsBytes known segments range (Ok (Some plan))
all_terms_bytes known segments range s e plan place p =
    let is : IsAssembled known segments range (interval s e) plan = record { clipped = λ content f. terms_bytes known segments (interval s e) plan p content f; asked = λ content f. terms_asked known segments range (interval s e) plan place p content f } in
    rw place is

pub plans_bytes : (known : Known) (segments : List Segment) (range : Option (Range ℕ _F)) (s e : ℕ) (plan : PlanModel) → reach (size_of segments) range ≡ Within s e → IsPlan known segments (interval s e) plan → PlansBytes known segments range (Ok (Some plan))
plans_bytes known segments range s e plan place p = all_terms_bytes known segments range s e (terms_shown plan) place (record { readable = p.readable; terms = p.terms; offset = p.offset })
