use Rattle.std.proofs.Common.{◌≡◌, ◌∙◌, ℕ, ◌-◌, ◌<◌, sum, slice_range, arith, refl, sym, ap, filter, inl, inr}
use Rattle.xet_plan.specs.Places.{interval, lengths_in}
use Rattle.xet_plan.specs.MetChunks.{lay, is_met}
use Rattle.xet_plan.proofs.Cuts.{Agreement, agreed, cut_from-lay}
use Rattle.xet_plan.proofs.Lay.{range-none, sum-range}
use Rattle.std.proofs.lemmas.Bool.{cases_lt}
use Rattle.xet_plan.proofs.place.narrow.Goals as goal

pub overflow_sub-result : goal.overflow_sub-result
overflow_sub-result c = omega (arith, sum-range c.args.object.now.lengths c.skip-start.result.0 c.run-end.result (omega arith))

pub returns-clause-value : goal.returns-clause-value
returns-clause-value c =
    let xs = c.args.object.now.lengths in
    let h = c.args.segment.now.xorb_hash in
    let s = c.skip-start.result.0 in
    let e = c.run-end.result in
    let at = c.skip-start.result.1 in
    let to = c.args.segment.now.chunk_index_end in
    let clip = interval c.args.clip_start c.args.clip_end in
    let a : Agreement c.args.segment.now c.args.object.now = agreed c.args.segment.now c.args.object.now c.requires.agrees in
    let some : s < to = elim (cases_lt s to) as (λ _. s < to) [
      | inl l ↦ l
      | inr l ↦
          let q : s ≡ to = omega arith in
          let none : sum (slice_range xs s to) ≡ 0 = ap (λ (k : ℕ). sum (slice_range xs k to)) q ∙ ap sum (range-none xs to) in
          absurd (omega (arith, c.skip-start.ensures.rest, c.skip-start.ensures.at, a.sums, c.requires.meets))
    ] in
    let more : s < e = c.run-end.ensures.some some (omega arith) in
    let all : filter (is_met clip) (lay h c.args.segment.now.chunk_index_start c.args.place (lengths_in c.args.segment.now c.args.object.now)) ≡ lay h s at (slice_range xs s e)
    = sym (c.skip-start.ensures.chunks h clip refl) ∙ c.run-end.ensures.chunks h clip refl (omega arith) (λ _. c.skip-start.ensures.past some) in
    let len : c.unpacked_before.result - c.unpacked_before-2.result ≡ sum (slice_range xs s e) = omega (arith, sum-range xs s e (omega arith)) in
    rw (all, cut_from-lay h xs s e at more (omega arith), len, c.packed_before.ensures, c.packed_before-2.ensures) refl
