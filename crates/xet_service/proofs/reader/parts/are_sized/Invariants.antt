use Rattle.std.proofs.Common.{◌≡◌, drop}
use Rattle.xet_service.specs.ReadingParts.{are_sized}
use Rattle.xet_service.proofs.reader.parts.are_sized.Given as goal

abbrev pub invariant-loop-range : goal.invariant-loop-range
invariant-loop-range l = are_sized (drop l.range-index l.ranges) l.rest ≡ are_sized l.ranges l.parts
