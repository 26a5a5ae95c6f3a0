use Rattle.std.proofs.Common.{◌≡◌, drop}
use Rattle.xet_service.specs.ReadingPlans.{are_apart}
use Rattle.xet_service.proofs.reader.link.are_apart.Given as goal

abbrev pub invariant-loop-range : goal.invariant-loop-range
invariant-loop-range l = are_apart l.from (drop l.range-index l.ranges) ≡ are_apart 0 l.ranges
