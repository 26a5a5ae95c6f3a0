use Rattle.std.proofs.Common.{◌≡◌, None, map}
use Rattle.std.specs.List.{AllByRecursion}
use Rattle.xet_plan.specs.Places.{interval, first_fault, met_segments}
use Rattle.xet_plan.specs.Cuts.{IsReadable, cut_at}
use Rattle.xet_plan.specs.Answers.{IsPlanOf}
use Rattle.xet_plan.proofs.PlanOk.{plan_ok}
use Rattle.xet_plan.proofs.planner.plan_within.Goals as goal

pub returns-clause-answer : goal.returns-clause-answer
returns-clause-answer g c = λ known told.
    let xs = c.args.segments.now in
    let clip = interval c.args.start c.args.end in
    let a : (first_fault known clip xs ≡ None) × AllByRecursion (IsReadable known) (met_segments clip xs) × (c.in_ok-cuts.cuts.items ≡ map (cut_at known clip) (met_segments clip xs)) = c.in_ok-cuts.ensures.answer known told in
    let p : IsPlanOf c.args.start c.in_ok-cuts.cuts.items c.in_ok-plan.plan = c.in_ok-plan.ensures in
    (a.0, plan_ok known clip xs c.in_ok-cuts.cuts.items c.in_ok-plan.plan a.1 a.2 p)
