use Rattle.std.proofs.Common.{◌≡◌, take}
use Rattle.xet_xorb.specs.ChunkLists.{joined}
use Rattle.xet_xorb.proofs.contents.join.Given as goal

abbrev pub invariant-loop-chunk : goal.invariant-loop-chunk
invariant-loop-chunk l = l.all.items ≡ joined (take l.chunk-index l.chunks)
