use Rattle.std.proofs.Common.{length}
use Rattle.xet_wire.proofs.MultipartReads.{ReadsOn}
use Rattle.xet_wire.proofs.multipart.read.read_parts.Given as goal

abbrev pub invariant-loop-alloc : goal.invariant-loop-alloc
invariant-loop-alloc l = ReadsOn l.word l.fn.after l.parts.items l.rest

abbrev pub decreases-loop-alloc : goal.decreases-loop-alloc
decreases-loop-alloc l = length l.rest
