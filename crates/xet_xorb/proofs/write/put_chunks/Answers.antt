use Rattle.std.proofs.Common.{ap, length, arith}
use Rattle.xet_xorb.proofs.WellFormed.{chunk_of_formed}
use Rattle.xet_xorb.proofs.write.put_chunks.Goals as goal

pub put_chunk-requires : goal.put_chunk-requires
put_chunk-requires c =
    let chunk = chunk_of_formed c.args.chunks.now c.loop-chunk.chunk-index c.chunk-item.result c.requires c.loop-chunk-test.true c.chunk-item.is in
    omega (arith, chunk.1, ap length c.as_slice.ensures)
