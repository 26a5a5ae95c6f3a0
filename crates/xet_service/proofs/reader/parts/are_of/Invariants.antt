use Rattle.std.proofs.Common.{◌≡◌, drop}
use Rattle.xet_service.specs.ReadingParts.{are_of}
use Rattle.xet_service.proofs.reader.parts.are_of.Given as goal

abbrev pub invariant-loop-range : goal.invariant-loop-range
invariant-loop-range l = are_of (drop l.range-index l.ranges) l.rest ≡ are_of l.ranges l.read
