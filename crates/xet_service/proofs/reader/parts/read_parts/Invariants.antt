use Rattle.std.proofs.Common.{take}
use Rattle.xet_service.specs.Reading.{AreAllWhole}
use Rattle.xet_service.proofs.reader.parts.read_parts.Given as goal

abbrev pub invariant-loop-part : goal.invariant-loop-part
invariant-loop-part l = AreAllWhole (take l.part-index l.parts) l.got.items
