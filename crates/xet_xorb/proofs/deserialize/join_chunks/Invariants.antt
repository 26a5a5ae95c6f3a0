use Rattle.std.proofs.Common.{length}
use Rattle.xet_xorb.proofs.Joining.{AreJoinedSoFar}
use Rattle.xet_xorb.proofs.deserialize.join_chunks.Given as goal

abbrev pub invariant-loop-rest : goal.invariant-loop-rest
invariant-loop-rest l = AreJoinedSoFar l.content l.all.items l.offsets.items l.rest l.end

abbrev pub decreases-loop-rest : goal.decreases-loop-rest
decreases-loop-rest l = length l.rest
