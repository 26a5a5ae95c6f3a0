use Rattle.std.proofs.Common.{◌≡◌, ◌++◌, drop}
use Rattle.xet_service.specs.ReadingPlans.{ranges_of}
use Rattle.xet_service.proofs.reader.held.push_ranges.Given as goal

abbrev pub invariant-loop-number : goal.invariant-loop-number
invariant-loop-number l = l.out.items ++ ranges_of l.fn.hash l.link l.number (drop l.number l.ranges) ≡ l.fn.out.items ++ ranges_of l.fn.hash l.link 0 l.ranges
