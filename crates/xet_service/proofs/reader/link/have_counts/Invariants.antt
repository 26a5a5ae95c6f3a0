use Rattle.std.proofs.Common.{◌≡◌, drop}
use Rattle.xet_service.specs.Reading.{have_counts}
use Rattle.xet_service.proofs.reader.link.have_counts.Given as goal

abbrev pub invariant-loop-range : goal.invariant-loop-range
invariant-loop-range l = have_counts (drop l.range-index l.ranges) l.rest ≡ have_counts l.ranges l.got
