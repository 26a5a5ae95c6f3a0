use Rattle.std.proofs.Common.{◌≡◌, drop}
use Rattle.xet_service.specs.ReadingPlans.{range_of}
use Rattle.xet_service.proofs.reader.order.first_range.Given as goal

abbrev pub invariant-loop-range : goal.invariant-loop-range
invariant-loop-range l = range_of (drop l.range-index l.ranges) l.fn.term ≡ range_of l.ranges l.fn.term
