use Rattle.std.proofs.Common.{length}
use Rattle.xet_xorb.proofs.ChunkText.{IsReadSoFar}
use Rattle.xet_xorb.proofs.read.take_chunks.Given as goal

abbrev pub invariant-loop-rest : goal.invariant-loop-rest
invariant-loop-rest l = IsReadSoFar l.content l.whole.items l.rest

abbrev pub decreases-loop-rest : goal.decreases-loop-rest
decreases-loop-rest l = length l.rest
