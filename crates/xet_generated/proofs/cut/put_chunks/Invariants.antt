use Rattle.std.proofs.Common.{◌≡◌, ◌++◌, take}
use Rattle.xet_xorb.specs.ChunkLists.{joined}
use Rattle.xet_generated.proofs.cut.put_chunks.Given as goal

abbrev pub invariant-loop-chunk : goal.invariant-loop-chunk
invariant-loop-chunk l = l.out.items ≡ l.fn.out.items ++ joined (take l.chunk-index l.chunks)
