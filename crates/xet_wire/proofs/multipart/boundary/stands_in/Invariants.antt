use Rattle.std.proofs.Common.{take}
use Rattle.xet_wire.specs.Multipart.{IsAbsent}
use Rattle.xet_wire.proofs.multipart.boundary.stands_in.Given as goal

abbrev pub invariant-loop-part : goal.invariant-loop-part
invariant-loop-part l = IsAbsent l.word (take l.part-index l.parts)
