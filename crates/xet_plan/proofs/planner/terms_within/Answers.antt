use Rattle.std.proofs.Common.{◌≡◌, ◌∙◌, None, map, ap}
use Rattle.std.specs.List.{AllByRecursion}
use Rattle.xet_plan.specs.Places.{interval, first_fault, met_segments}
use Rattle.xet_plan.specs.Cuts.{IsReadable, cut_at}
use Rattle.xet_plan.specs.Answers.{cut_term, cut_offset}
use Rattle.xet_plan.proofs.PlanOk.{terms_ok}
use Rattle.xet_plan.proofs.planner.terms_within.Goals as goal

pub returns-clause-answer : goal.returns-clause-answer
returns-clause-answer g c = λ known told.
    let xs = c.args.segments.now in
    let clip = interval c.args.start c.args.end in
    let a : (first_fault known clip xs ≡ None) × AllByRecursion (IsReadable known) (met_segments clip xs) × (c.in_ok-cuts.cuts.items ≡ map (cut_at known clip) (met_segments clip xs)) = c.in_ok-cuts.ensures.answer known told in (
      a.0,
      terms_ok known clip xs c.in_ok-cuts.cuts.items (record { offset_into_first_range = c.offset_of-offset_into_first_range.result; terms = c.in_ok-terms.terms.items }) a.1 a.2
          (c.in_ok-terms.ensures ∙ ap (map cut_term) c.deref-2.ensures.value)
          (c.offset_of-offset_into_first_range.ensures ∙ ap (cut_offset c.args.start) c.deref.ensures.value),
    )
