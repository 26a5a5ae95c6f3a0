use Rattle.std.proofs.Common.{ℕ, List, length}
use Rattle.xet_xorb.proofs.ChunkText.{IsReadSoFar}
use Rattle.xet_xorb.proofs.whole.are_whole.Given as goal

abbrev pub invariant-loop-rest : goal.invariant-loop-rest
invariant-loop-rest l = (chunks : List (List ℕ)) × IsReadSoFar l.content chunks l.rest

abbrev pub decreases-loop-rest : goal.decreases-loop-rest
decreases-loop-rest l = length l.rest
