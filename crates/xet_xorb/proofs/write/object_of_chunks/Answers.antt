use Rattle.std.proofs.Common.{arith}
use Rattle.xet_xorb.proofs.WellFormed.{chunk_of_formed}
use Rattle.xet_xorb.proofs.write.object_of_chunks.Goals as goal

pub overflow_cast-len : goal.overflow_cast-len
overflow_cast-len c =
    let chunk = chunk_of_formed c.args.chunks.now c.loop-chunk.chunk-index c.chunk-item.result c.requires c.loop-chunk-test.true c.chunk-item.is in
    omega (arith, chunk.1, c.len.ensures.value)
