use Rattle.std.proofs.Common.{[]}
use Rattle.xet_xorb.proofs.Walking.{chunks_in-are, are_chunks_in, no_text}
use Rattle.xet_xorb.proofs.whole.ChunkWalk.empty.Goals as goal

pub invariant_of-result : goal.invariant_of-result
invariant_of-result c = are_chunks_in [] [] no_text

pub returns : goal.returns
returns c = chunks_in-are [] [] no_text
