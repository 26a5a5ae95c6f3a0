-- The runs of the met chunks are the least.
use Rattle.std.proofs.Common.{◌≡◌, ℕ, ◌+◌, ◌<◌, ◌≤◌, ◌==◌, nat_le, min, List, [], ◌∷◌, length, subst, arith, inl, inr, true, false, Bool, Option, Some, None, ◌↔◌}
use Rattle.std.specs.List.{AllByRecursion, Contains}
use Rattle.std.specs.Option.{IfSome}
use Rattle.std.proofs.lemmas.Bool.{cases_lt, le-ltb}
use Rattle.xet_shard.specs.declared.listing.Segment.{Segment}
use Rattle.std.proofs.Common.{max, ◌&&◌}
use Rattle.std.specs.Bool.{if◌then◌else◌}
use Rattle.std.specs.List.{flat_map}
use Rattle.xet_types.specs.declared.range.Range.{Range}
use Rattle.xet_types.specs.declared.range._F.{_F}
use Rattle.xet_shard.specs.Values.{size_of}
use Rattle.xet_plan.specs.declared.place.Reach.TheVariants.{Past, Reversed, Within}
use Rattle.xet_plan.proofs.SoFar.{met-no}
use Rattle.xet_plan.specs.Places.{Interval, Known, reach, met_from, met_segments}
use Rattle.xet_plan.specs.MetChunks.{kept, met_chunks, Has}
use Rattle.xet_plan.specs.Cuts.{IsReadable}
use Rattle.xet_plan.specs.Runs.{Covers, Separated, Group, IsMerged}
use Rattle.xet_plan.specs.Least.{Name, source, IsLeast}
use Rattle.xet_plan.proofs.Order.{all_map}
use Rattle.xet_plan.proofs.Fewest.{fewest}
use Rattle.xet_plan.proofs.Source.{IsSourceOf, met_segment_source, source_segment, source_total}

-- nothing meets an empty interval
none_met : (known : Known) (clip : Interval) (at : ℕ) (ss : List Segment) (h : List ℕ) (k : ℕ) → clip.end ≤ clip.start → Has (flat_map (kept known clip) (met_from clip at ss)) h k → ⊥
none_met known clip at [] h k l p = p
none_met known clip at (s ∷ ss) h k l p =
    none_met known clip (at + s.unpacked_segment_bytes) ss h k l
    (subst (λ ps. Has (flat_map (kept known clip) ps) h k) (met-no clip at s ss (le-ltb (max clip.start at) (min clip.end (at + s.unpacked_segment_bytes)) (omega arith))) p)

second : {a b s e : ℕ} → Within a b ≡ Within s e → b ≡ e
second h = cc

within_size : (n s e : ℕ) (r : Range ℕ _F) (b c d : Bool) → (if b then Within 0 0 else (if c then Past else (if d then Reversed else Within r.start (min r.end n)))) ≡ Within s e → e ≤ n
within_size n s e r true c d h = let q : 0 ≡ e = second h in omega arith
within_size n s e r false true d h = let q : ⊥ = cc in absurd q
within_size n s e r false false true h = let q : ⊥ = cc in absurd q
within_size n s e r false false false h = let q : min r.end n ≡ e = second h in omega arith

pub reach_within : (n : ℕ) (range : Option (Range ℕ _F)) (s e : ℕ) → reach n range ≡ Within s e → e ≤ n
reach_within n None s e h = let q : n ≡ e = second h in omega arith
reach_within n (Some r) s e h = within_size n s e r (n == 0 && r.start == 0) (nat_le n r.start) (nat_le r.end r.start) h

pub least_ok : (known : Known) (segments : List Segment) (clip : Interval) (groups : List Group) → clip.end ≤ size_of segments → AllByRecursion (IsReadable known) (met_segments clip segments)
    → IsMerged (Has (met_chunks known clip segments)) groups → IsLeast known segments clip groups
least_ok known segments clip groups within r m = record {
  holds = λ j low high.
      (let e : 0 + j ≡ j = omega arith in
      let t : (c : Name) × (source known segments j ≡ Some c) = source_total known clip 0 segments j r (omega arith) (omega arith) (omega arith) in
      (t.0, t.1, (m.covers t.0.0 t.0.1).1 (met_segment_source known clip 0 segments j t.0 (omega arith) (omega arith) t.1)));
  least = λ chunks all h k p.
      (let q : Has (met_chunks known clip segments) h k = (m.covers h k).0 p in
      let o : clip.start < clip.end = elim (cases_lt clip.start clip.end) as (λ _. clip.start < clip.end) [ inl l ↦ l | inr l ↦ absurd (none_met known clip 0 segments h k l q) ] in
      let b : IsSourceOf known clip 0 segments (h, k) = source_segment known clip 0 segments h k r o q in
      subst (λ o. IfSome o (Contains chunks)) b.is (all b.j (omega (arith, b.low)) (omega (arith, b.high))));
  fewest = all_map (λ g. (0 < length g.ranges) × Separated g.ranges) (λ g. (others : List Interval) → ((k : ℕ) → Covers others k ↔ Covers g.ranges k) → length g.ranges ≤ length others)
      (λ g s others same. fewest g.ranges others s.1 (λ k p. (same k).0 p) (λ k p. (same k).1 p)) groups m.runs;
}
