use Rattle.std.proofs.Common.{◌≡◌, ◌++◌, take}
use Rattle.std.specs.List.{concat}
use Rattle.xet_service.proofs.reader.join.push_chunks.Given as goal

abbrev pub invariant-loop-chunk : goal.invariant-loop-chunk
invariant-loop-chunk l = l.out.items ≡ l.fn.out.items ++ concat (take l.chunk-index l.chunks)
