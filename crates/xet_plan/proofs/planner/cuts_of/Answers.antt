use Rattle.std.proofs.Common.{ap, sym, Err, Some, ◌≡◌, ◌∙◌, ◌+◌, ◌<◌, ◌∷◌, [], drop, arith}
use Rattle.std.proofs.lemmas.List.{drop_all}
use Rattle.std.proofs.lemmas.Result.{err_from_is_err_and}
use Rattle.xet_types.specs.declared.error.ClientError.TheVariants.{FormatError}
use Rattle.xet_types.specs.declared.error.FormatFault.TheVariants.{Segment as AtSegment}
use Rattle.xet_types.specs.declared.error.Refusal.TheVariants as refusals
use Rattle.xet_plan.specs.Cuts.{CutAnswer, Names}
use Rattle.xet_plan.specs.Places.{interval, place, fault, met_segments}
use Rattle.xet_plan.proofs.Order.{all_push}
use Rattle.xet_plan.proofs.SoFar.{named_skip, named_take, named_first, footer_refused, so_far_fault, so_far_skip, so_far_take, so_far_all, so_far_past, drop_read, meets-no, meets-yes}
use Rattle.xet_plan.proofs.planner.cuts_of.Goals as goal

pub loop-segment-preserved-then-max-min : goal.loop-segment-preserved-then-max-min
loop-segment-preserved-then-max-min g c =
    let xs = c.args.segments.now in
    let i = c.loop-segment.segment-index in
    let s = c.segment-item.result in
    let more : drop i xs ≡ s ∷ drop (i + 1) xs = drop_read xs i s (omega arith) c.segment-item.is in (
      omega arith,
      c.loop-segment.invariant.1,
      c.loop-segment.invariant.2,
      λ known told.
          rw c.from-at.ensures
          (so_far_skip known (interval c.args.start c.args.end) xs c.loop-segment.at s (drop (i + 1) xs) c.loop-segment.cuts.items
          (meets-no c.args.start c.args.end c.loop-segment.at s.unpacked_segment_bytes (omega arith))
          (rw more at (c.loop-segment.invariant.3 known told))),
      c.loop-segment.invariant.4,
      c.loop-segment.invariant.5,
      rw c.from-at.ensures
          (named_skip (interval c.args.start c.args.end) xs c.loop-segment.at s (drop (i + 1) xs) (meets-no c.args.start c.args.end c.loop-segment.at s.unpacked_segment_bytes (omega arith)) (rw more at c.loop-segment.invariant.6)),
    )

pub loop-segment-preserved : goal.loop-segment-preserved
loop-segment-preserved g c =
    let xs = c.args.segments.now in
    let i = c.loop-segment.segment-index in
    let s = c.segment-item.result in
    let more : drop i xs ≡ s ∷ drop (i + 1) xs = drop_read xs i s (omega arith) c.segment-item.is in (
      omega arith,
      c.object_of.ensures.stays ∙ c.loop-segment.invariant.1,
      omega (arith, c.object_of.ensures.cause.later, c.loop-segment.invariant.2),
      λ known told.
          let is = c.in_ok-object.ensures.answer known (c.loop-segment.invariant.1 ∙ told) (c.loop-segment.invariant.5 known told) ∙ ap Some (sym c.deref-shared.ensures) in
          let r = c.in_ok-cut.ensures.answer known is in
          rw (c.from-at.ensures, c.in_ok-push.ensures.items)
          (so_far_take known (interval c.args.start c.args.end) xs c.loop-segment.at s (drop (i + 1) xs) c.loop-segment.cuts.items c.in_ok-cut.cut
          (meets-yes c.args.start c.args.end c.loop-segment.at s.unpacked_segment_bytes (omega arith)) r.0 r.1
          (rw more at (c.loop-segment.invariant.3 known told))),
      rw c.in_ok-push.ensures.items (all_push (λ x. x.start < x.end) c.loop-segment.cuts.items c.in_ok-cut.cut c.loop-segment.invariant.4 c.in_ok-cut.ensures.nonempty),
      λ known told. c.in_ok-object.ensures.answer known (c.loop-segment.invariant.1 ∙ told) (c.loop-segment.invariant.5 known told),
      rw c.from-at.ensures
          (named_take (interval c.args.start c.args.end) xs c.loop-segment.at s (drop (i + 1) xs) (meets-yes c.args.start c.args.end c.loop-segment.at s.unpacked_segment_bytes (omega arith)) (rw more at c.loop-segment.invariant.6)),
    )

pub returns-then-place-end-clause-answer : goal.returns-then-place-end-clause-answer
returns-then-place-end-clause-answer g c = λ known told.
    so_far_past known (interval c.args.start c.args.end) c.args.segments.now c.loop-segment.at (drop c.loop-segment.segment-index c.args.segments.now) c.loop-segment.cuts.items (omega arith) (c.loop-segment.invariant.3 known told)

pub returns-clause-answer : goal.returns-clause-answer
returns-clause-answer g c = λ known told.
    let none : drop c.loop-segment.segment-index c.args.segments.now ≡ [] = drop_all c.loop-segment.segment-index c.args.segments.now (omega arith) in
    so_far_all known (interval c.args.start c.args.end) c.args.segments.now c.loop-segment.at c.loop-segment.cuts.items (rw none at (c.loop-segment.invariant.3 known told))

pub returns-in_err-cut-clause-answer : goal.returns-in_err-cut-clause-answer
returns-in_err-cut-clause-answer g c = λ known told.
    let xs = c.args.segments.now in
    let i = c.loop-segment.segment-index in
    let s = c.segment-item.result in
    let clip = interval c.args.start c.args.end in
    let e = c.in_err-cut.field-0.0 in
    let more : drop i xs ≡ s ∷ drop (i + 1) xs = drop_read xs i s (omega arith) c.segment-item.is in
    let is = c.in_ok-object.ensures.answer known (c.loop-segment.invariant.1 ∙ told) (c.loop-segment.invariant.5 known told) ∙ ap Some (sym c.deref-shared.ensures) in
    let a : CutAnswer known clip (place c.loop-segment.at s) (Err e) = c.in_err-cut.ensures.answer known is in
    let r : e ≡ FormatError AtSegment = c.in_err-cut.ensures.refusals in
    let f : fault known s ≡ Some (refusals.FormatError AtSegment) = rw r at a in
    let p = err_from_is_err_and c.from_residual-in_err-cut.result c.from_residual-in_err-cut.ensures.1 in
    rw (p.1, p.2, r)
    (so_far_fault known clip xs c.loop-segment.at s (drop (i + 1) xs) c.loop-segment.cuts.items (refusals.FormatError AtSegment)
    (meets-yes c.args.start c.args.end c.loop-segment.at s.unpacked_segment_bytes (omega arith)) f (rw more at (c.loop-segment.invariant.3 known told)))

pub returns-in_err-object-clause-refusals : goal.returns-in_err-object-clause-refusals
returns-in_err-object-clause-refusals g c =
    let xs = c.args.segments.now in
    let i = c.loop-segment.segment-index in
    let s = c.segment-item.result in
    let clip = interval c.args.start c.args.end in
    let more : drop i xs ≡ s ∷ drop (i + 1) xs = drop_read xs i s (omega arith) c.segment-item.is in
    let n : Names (met_segments clip xs) s.xorb_hash = named_first clip xs c.loop-segment.at s (drop (i + 1) xs) (meets-yes c.args.start c.args.end c.loop-segment.at s.unpacked_segment_bytes (omega arith)) (rw more at c.loop-segment.invariant.6) in
    let p = err_from_is_err_and c.from_residual-in_err-object.result c.from_residual-in_err-object.ensures.1 in
    rw (p.1, p.2) (footer_refused clip xs s.xorb_hash c.in_err-object.field-0.0 c.in_err-object.ensures.refusals n)
