use Rattle.std.proofs.Common.{length}
use Rattle.xet_wire.proofs.Boundaries.{Scans}
use Rattle.xet_wire.proofs.multipart.boundary.add_numbers.Given as goal

abbrev pub invariant-loop-digits : goal.invariant-loop-digits
invariant-loop-digits l = Scans l.part l.rest l.fn.taken.items l.taken.items

abbrev pub decreases-loop-digits : goal.decreases-loop-digits
decreases-loop-digits l = length l.rest
