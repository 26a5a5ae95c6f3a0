use Rattle.std.proofs.Common.{◌≡◌, ◌≤◌, slice_range}
use Rattle.xet_store.proofs.memory.xorb.StoredXorb.cut.Given as goal

abbrev pub invariant-loop-k : goal.invariant-loop-k
invariant-loop-k l = record { from : l.fn.chunks.start ≤ l.k; cut : l.cut.items ≡ slice_range l.self l.fn.chunks.start l.k }
