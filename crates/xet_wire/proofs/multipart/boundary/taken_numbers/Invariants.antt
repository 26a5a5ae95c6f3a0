use Rattle.std.proofs.Common.{take}
use Rattle.xet_wire.proofs.Boundaries.{HasTaken}
use Rattle.xet_wire.proofs.multipart.boundary.taken_numbers.Given as goal

abbrev pub invariant-loop-part : goal.invariant-loop-part
invariant-loop-part l = HasTaken l.parts (take l.part-index l.parts) l.taken.items
