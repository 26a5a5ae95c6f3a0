use Rattle.std.proofs.Common.{◌≡◌, take, map}
use Rattle.xet_plan.specs.Merging.{ranges_shown}
use Rattle.xet_plan.proofs.planner.copy_of.Given as goal

abbrev pub invariant-loop-hash : goal.invariant-loop-hash
invariant-loop-hash l = map ranges_shown l.copy.items ≡ map ranges_shown (take l.hash-index l.merged)
