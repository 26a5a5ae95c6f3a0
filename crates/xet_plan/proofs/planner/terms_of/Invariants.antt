use Rattle.std.proofs.Common.{◌≡◌, take, map}
use Rattle.xet_plan.specs.Answers.{cut_term}
use Rattle.xet_plan.proofs.planner.terms_of.Given as goal

abbrev pub invariant-loop-cut : goal.invariant-loop-cut
invariant-loop-cut l = l.terms.items ≡ map cut_term (take l.cut-index l.cuts)
