use Rattle.std.proofs.Common.{◌≡◌, ◌≤◌, ◌++◌, max, slice_range}
use Rattle.std.specs.List.{concat}
use Rattle.xet_store.proofs.memory.xorb.StoredXorb.append.Given as goal

abbrev pub invariant-loop-k : goal.invariant-loop-k
invariant-loop-k l = record { from : l.fn.chunks.start ≤ l.k; upto : l.k ≤ max l.fn.chunks.start l.last; joined : l.out.items ≡ l.fn.out.items ++ concat (slice_range l.self l.fn.chunks.start l.k) }
