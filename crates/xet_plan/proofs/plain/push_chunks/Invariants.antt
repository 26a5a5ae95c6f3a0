use Rattle.std.proofs.Common.{◌≡◌, ◌++◌, drop}
use Rattle.std.specs.List.{concat}
use Rattle.xet_plan.proofs.plain.push_chunks.Given as goal

abbrev pub invariant-loop-chunk : goal.invariant-loop-chunk
invariant-loop-chunk l = l.out.items ++ concat (drop l.chunk-index l.chunks) ≡ l.fn.out.items ++ concat l.chunks
