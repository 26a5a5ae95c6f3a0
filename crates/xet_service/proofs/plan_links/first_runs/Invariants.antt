use Rattle.std.proofs.Common.{◌≡◌, ◌∷◌, length, map}
use Rattle.xet_plan.specs.Merging.{ranges_shown}
use Rattle.xet_service.specs.LinkForms.{with_runs}
use Rattle.xet_service.proofs.plan_links.first_runs.Given as goal

abbrev pub invariant-loop-runs : goal.invariant-loop-runs
invariant-loop-runs l = with_runs ((l.hash, l.runs) ∷ map ranges_shown l.xorbs) ≡ with_runs ((l.fn.hash, l.fn.runs) ∷ map ranges_shown l.fn.xorbs)

abbrev pub decreases-loop-runs : goal.decreases-loop-runs
decreases-loop-runs l = length l.xorbs
