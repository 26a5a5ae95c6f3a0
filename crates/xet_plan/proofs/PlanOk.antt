-- A plan of the met segments' cuts is the file's plan.
use Rattle.std.proofs.Common.{◌≡◌, ◌∙◌, ℕ, ◌+◌, ◌-◌, ◌<◌, ◌≤◌, min, max, List, [], ◌∷◌, ◌++◌, length, map, refl, sym, ap, subst, arith, ◌⊎◌, inl, inr, suc, true}
use Rattle.std.specs.List.{AllByRecursion, flat_map}
use Rattle.std.proofs.lemmas.Bool.{ltb-true}
use Rattle.std.proofs.lemmas.List.Elements.{filter_passes, recursion_from_All}
use Rattle.xet_shard.specs.declared.listing.Segment.{Segment}
use Rattle.xet_plan.specs.Plans.{PlanModel, TermsModel, terms_shown}
use Rattle.xet_plan.specs.declared.place.Cut.{Cut}
use Rattle.xet_plan.specs.Places.{Interval, Placed, Known, meets, placed, met_from, met_segments}
use Rattle.xet_plan.specs.MetChunks.{Chunk, lay, kept, Has, span, offset_in}
use Rattle.xet_plan.specs.Cuts.{IsReadable, cut_at, first_at}
use Rattle.xet_plan.specs.Merging.{CutsHave, CutAt}
use Rattle.xet_plan.specs.Answers.{IsPlan, IsPlanOf, AreTerms, cut_term, cut_offset, packed_at}
use Rattle.xet_plan.proofs.Cuts.{length-lay}
use Rattle.xet_plan.proofs.Kept.{IsSpan, kept_span, has_lay, lay_has}
use Rattle.xet_plan.proofs.CutRuns.{In, map_shown}

-- the interval meets the segment
abbrev pub IsMet : Interval → Placed → Type 0
IsMet clip p = meets clip p.at p.segment.unpacked_segment_bytes ≡ true

pub all_met : (clip : Interval) (at : ℕ) (segments : List Segment) → AllByRecursion (IsMet clip) (met_from clip at segments)
all_met clip at segments = recursion_from_All (IsMet clip) (met_from clip at segments) (filter_passes (λ p. meets clip p.at p.segment.unpacked_segment_bytes) (placed at segments))

pub span_of : (known : Known) (clip : Interval) (p : Placed) → IsReadable known p → IsMet clip p → IsSpan p.segment.xorb_hash (kept known clip p)
span_of known clip p r m = kept_span known clip p r (ltb-true (max clip.start p.at) (min clip.end (p.at + p.segment.unpacked_segment_bytes)) m)

-- the cut holds what is kept
cut_has : (known : Known) (clip : Interval) (p : Placed) → IsSpan p.segment.xorb_hash (kept known clip p) → (x : List ℕ) (k : ℕ) → In (cut_at known clip p) x k → Has (kept known clip p) x k
cut_has known clip p s x k h =
    let low : s.number ≤ k = subst (λ cs. (span cs).start ≤ k) s.is h.1 in
    let high : k < s.number + suc (length (lay p.segment.xorb_hash (s.number + 1) (s.at + s.first) s.rest)) = subst (λ cs. k < (span cs).end) s.is h.2 in
    subst (λ cs. Has cs x k) (sym s.is) (lay_has p.segment.xorb_hash s.number s.at (s.first ∷ s.rest) x k h.0 low (omega (arith, length-lay p.segment.xorb_hash (s.number + 1) (s.at + s.first) s.rest)))

has_cut : (known : Known) (clip : Interval) (p : Placed) → IsSpan p.segment.xorb_hash (kept known clip p) → (x : List ℕ) (k : ℕ) → Has (kept known clip p) x k → In (cut_at known clip p) x k
has_cut known clip p s x k h =
    let t : (p.segment.xorb_hash ≡ x) × (s.number ≤ k) × (k < s.number + length (s.first ∷ s.rest)) = has_lay p.segment.xorb_hash s.number s.at (s.first ∷ s.rest) x k (subst (λ cs. Has cs x k) s.is h) in
    (t.0, subst (λ cs. (span cs).start ≤ k) (sym s.is) t.1, subst (λ cs. k < (span cs).end) (sym s.is) (omega (arith, t.2, length-lay p.segment.xorb_hash (s.number + 1) (s.at + s.first) s.rest)))

pub has_left : (cs ds : List Chunk) (x : List ℕ) (k : ℕ) → Has cs x k → Has (cs ++ ds) x k
has_left [] ds x k h = absurd h
has_left (c ∷ cs) ds x k (inl h) = inl h
has_left (c ∷ cs) ds x k (inr h) = inr (has_left cs ds x k h)

pub has_right : (cs ds : List Chunk) (x : List ℕ) (k : ℕ) → Has ds x k → Has (cs ++ ds) x k
has_right [] ds x k h = h
has_right (c ∷ cs) ds x k h = inr (has_right cs ds x k h)

pub has_cases : (cs ds : List Chunk) (x : List ℕ) (k : ℕ) → Has (cs ++ ds) x k → Has cs x k ⊎ Has ds x k
has_cases [] ds x k h = inr h
has_cases (c ∷ cs) ds x k (inl h) = inl (inl h)
has_cases (c ∷ cs) ds x k (inr h) = elim (has_cases cs ds x k h) as (λ _. Has (c ∷ cs) x k ⊎ Has ds x k) [ inl p ↦ inl (inr p) | inr p ↦ inr p ]

pub cuts_have : (known : Known) (clip : Interval) (ps : List Placed) → AllByRecursion (IsReadable known) ps → AllByRecursion (IsMet clip) ps → (x : List ℕ) (k : ℕ) → CutsHave (map (cut_at known clip) ps) x k → Has (flat_map (kept known clip) ps) x k
cuts_have known clip [] r m x k h = absurd h
cuts_have known clip (p ∷ ps) r m x k (inl h) = has_left (kept known clip p) (flat_map (kept known clip) ps) x k (cut_has known clip p (span_of known clip p r.0 m.0) x k h)
cuts_have known clip (p ∷ ps) r m x k (inr h) = has_right (kept known clip p) (flat_map (kept known clip) ps) x k (cuts_have known clip ps r.1 m.1 x k h)

pub have_cuts : (known : Known) (clip : Interval) (ps : List Placed) → AllByRecursion (IsReadable known) ps → AllByRecursion (IsMet clip) ps → (x : List ℕ) (k : ℕ) → Has (flat_map (kept known clip) ps) x k → CutsHave (map (cut_at known clip) ps) x k
have_cuts known clip [] r m x k h = absurd h
have_cuts known clip (p ∷ ps) r m x k h = elim (has_cases (kept known clip p) (flat_map (kept known clip) ps) x k h) as (λ _. CutsHave (map (cut_at known clip) (p ∷ ps)) x k) [
  | inl q ↦ inl (has_cut known clip p (span_of known clip p r.0 m.0) x k q)
  | inr q ↦ inr (have_cuts known clip ps r.1 m.1 x k q)
]

first_offset : (start : ℕ) (h : List ℕ) (cs ds : List Chunk) → IsSpan h cs → start - first_at cs ≡ offset_in start (cs ++ ds)
first_offset start h cs ds s = subst (λ es. start - first_at es ≡ offset_in start (es ++ ds)) (sym s.is) refl

cuts_offset : (known : Known) (clip : Interval) (start : ℕ) (ps : List Placed) → AllByRecursion (IsReadable known) ps → AllByRecursion (IsMet clip) ps → cut_offset start (map (cut_at known clip) ps) ≡ offset_in start (flat_map (kept known clip) ps)
cuts_offset known clip start [] r m = refl
cuts_offset known clip start (p ∷ ps) r m = first_offset start p.segment.xorb_hash (kept known clip p) (flat_map (kept known clip) ps) (span_of known clip p r.0 m.0)

cuts_at : (known : Known) (clip : Interval) (ps : List Placed) → AllByRecursion (CutAt (packed_at known)) (map (cut_at known clip) ps)
cuts_at known clip [] = tt
cuts_at known clip (p ∷ ps) = ((refl, refl), cuts_at known clip ps)

pub terms_ok : (known : Known) (clip : Interval) (segments : List Segment) (cuts : List Cut) (plan : TermsModel) → AllByRecursion (IsReadable known) (met_segments clip segments) → cuts ≡ map (cut_at known clip) (met_segments clip segments)
    → plan.terms ≡ map cut_term cuts → plan.offset_into_first_range ≡ cut_offset clip.start cuts → AreTerms known segments clip plan
terms_ok known clip segments cuts plan r e terms offset =
    let ps = met_segments clip segments in
    record {
      readable = r;
      terms = terms ∙ ap (map cut_term) e ∙ sym (map_shown (cut_at known clip) cut_term ps);
      offset = offset ∙ ap (cut_offset clip.start) e ∙ cuts_offset known clip clip.start ps r (all_met clip 0 segments);
    }

pub plan_ok : (known : Known) (clip : Interval) (segments : List Segment) (cuts : List Cut) (plan : PlanModel) → AllByRecursion (IsReadable known) (met_segments clip segments) → cuts ≡ map (cut_at known clip) (met_segments clip segments)
    → IsPlanOf clip.start cuts plan → IsPlan known segments clip plan
plan_ok known clip segments cuts plan r e p =
    let ps = met_segments clip segments in
    let m : AllByRecursion (IsMet clip) ps = all_met clip 0 segments in
    let q : IsPlanOf clip.start (map (cut_at known clip) ps) plan = subst (λ cs. IsPlanOf clip.start cs plan) e p in
    let a : AreTerms known segments clip (terms_shown plan) = terms_ok known clip segments cuts (terms_shown plan) r e p.terms p.offset in
    record {
      readable = r;
      terms = a.terms;
      offset = a.offset;
      merged = record {
        rising = q.merged.rising;
        runs = q.merged.runs;
        covers = λ x k. (λ h. cuts_have known clip ps r m x k ((q.merged.covers x k).0 h), λ h. (q.merged.covers x k).1 (have_cuts known clip ps r m x k h));
      };
      bytes = q.bytes (packed_at known) (cuts_at known clip ps);
    }
