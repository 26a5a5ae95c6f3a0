-- Whether any chunk is met.
use Rattle.std.proofs.Common.{◌≡◌, ◌∙◌, ℕ, ◌-◌, ◌<◌, ◌≤◌, ◌==◌, ◌&&◌, nat_le, min, true, false, Bool, List, [], ◌∷◌, take, slice_range, Option, Some, None, refl, sym, ap, subst, arith, inl}
use Rattle.std.specs.Bool.{if◌then◌else◌}
use Rattle.std.specs.List.{AllByRecursion, flat_map}
use Rattle.std.proofs.lemmas.Bool.{and_parts, eqb-true, leb-false}
use Rattle.std.proofs.Math.Seq.{take-nil, drop-nil}
use Rattle.xet_types.specs.declared.range.Range.{Range}
use Rattle.xet_types.specs.declared.range._F.{_F}
use Rattle.xet_shard.specs.declared.listing.Segment.{Segment}
use Rattle.xet_shard.specs.Values.{size_of}
use Rattle.xet_plan.specs.declared.place.Reach.TheVariants.{Past, Reversed, Within}
use Rattle.xet_plan.specs.Places.{Interval, Placed, Known, reach, met_segments}
use Rattle.xet_plan.specs.MetChunks.{kept, met_chunks, Has}
use Rattle.xet_plan.specs.Cuts.{IsReadable}
use Rattle.xet_plan.specs.Least.{Name, source}
use Rattle.xet_plan.specs.FileBytes.{Content, laid, segments_of, first_place, file_bytes}
use Rattle.xet_plan.proofs.Kept.{IsSpan}
use Rattle.xet_plan.proofs.PlanOk.{IsMet, all_met, span_of, has_left}
use Rattle.xet_plan.proofs.Source.{met_segment_source, source_total}

-- ---- what is reached of a file that isn't empty isn't empty

first : {a b s e : ℕ} → Within a b ≡ Within s e → a ≡ s
first h = cc

second : {a b s e : ℕ} → Within a b ≡ Within s e → b ≡ e
second h = cc

within_rises : (n s e : ℕ) (r : Range ℕ _F) (b c d : Bool) → (b ≡ true → n ≡ 0) → (c ≡ false → r.start < n) → (d ≡ false → r.start < r.end) → 0 < n
    → (if b then Within 0 0 else (if c then Past else (if d then Reversed else Within r.start (min r.end n)))) ≡ Within s e → s < e
within_rises n s e r true c d none past reversed some h = let z : n ≡ 0 = none refl in absurd (omega arith)
within_rises n s e r false true d none past reversed some h = absurd cc
within_rises n s e r false false true none past reversed some h = absurd cc
within_rises n s e r false false false none past reversed some h =
    let a : r.start ≡ s = first h in
    let b : min r.end n ≡ e = second h in
    let l : r.start < n = past refl in
    let o : r.start < r.end = reversed refl in
    omega arith

pub reach_rises : (n : ℕ) (range : Option (Range ℕ _F)) (s e : ℕ) → 0 < n → reach n range ≡ Within s e → s < e
reach_rises n None s e some h = let a : 0 ≡ s = first h in let b : n ≡ e = second h in omega arith
reach_rises n (Some r) s e some h =
    within_rises n s e r (n == 0 && r.start == 0) (nat_le n r.start) (nat_le r.end r.start) (λ t. eqb-true n 0 (and_parts (n == 0) (r.start == 0) t).0) (λ f. leb-false n r.start f) (λ f. leb-false r.end r.start f) some h

-- ---- the chunk of the first byte is met

pub some_met : (known : Known) (segments : List Segment) (clip : Interval) → AllByRecursion (IsReadable known) (met_segments clip segments) → clip.start < clip.end → clip.end ≤ size_of segments
    → (c : Name) × Has (met_chunks known clip segments) c.0 c.1
some_met known segments clip r o within =
    let t : (c : Name) × (source known segments clip.start ≡ Some c) = source_total known clip 0 segments clip.start r (omega arith) (omega arith) (omega arith) in
    (t.0, met_segment_source known clip 0 segments clip.start t.0 (omega arith) (omega arith) t.1)

-- ---- where no chunk is met there are no bytes

no_segments : (known : Known) (clip : Interval) (ps : List Placed) → AllByRecursion (IsReadable known) ps → AllByRecursion (IsMet clip) ps → ((h : List ℕ) (k : ℕ) → Has (flat_map (kept known clip) ps) h k → ⊥) → ps ≡ []
no_segments known clip [] r m none = refl
no_segments known clip (p ∷ ps) r m none =
    let s : IsSpan p.segment.xorb_hash (kept known clip p) = span_of known clip p r.0 m.0 in
    absurd (none p.segment.xorb_hash s.number (has_left (kept known clip p) (flat_map (kept known clip) ps) p.segment.xorb_hash s.number (subst (λ cs. Has cs p.segment.xorb_hash s.number) (sym s.is) (inl (refl, refl)))))

nothing_laid : (content : Content) (clip : Interval) (ps : List Placed) → ps ≡ [] → slice_range (laid content (segments_of ps)) (clip.start - first_place ps) (clip.end - first_place ps) ≡ []
nothing_laid content clip ps e =
    subst (λ (qs : List Placed). slice_range (laid content (segments_of qs)) (clip.start - first_place qs) (clip.end - first_place qs) ≡ []) (sym e)
    (ap (take (clip.end - 0 - (clip.start - 0))) (drop-nil (clip.start - 0)) ∙ take-nil (clip.end - 0 - (clip.start - 0)))

pub nothing_met : (known : Known) (segments : List Segment) (clip : Interval) (content : Content) → AllByRecursion (IsReadable known) (met_segments clip segments) → ((h : List ℕ) (k : ℕ) → Has (met_chunks known clip segments) h k → ⊥)
    → file_bytes content clip segments ≡ []
nothing_met known segments clip content r none = nothing_laid content clip (met_segments clip segments) (no_segments known clip (met_segments clip segments) r (all_met clip 0 segments) none)
