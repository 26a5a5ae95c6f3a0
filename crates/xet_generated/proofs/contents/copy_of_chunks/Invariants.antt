use Rattle.std.proofs.Common.{◌≡◌, take}
use Rattle.xet_generated.proofs.contents.copy_of_chunks.Given as goal

abbrev pub invariant-loop-chunk : goal.invariant-loop-chunk
invariant-loop-chunk l = l.copy.items ≡ take l.chunk-index l.chunks
