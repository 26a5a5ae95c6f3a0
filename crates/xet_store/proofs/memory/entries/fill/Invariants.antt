use Rattle.std.proofs.Common.{◌≡◌, take}
use Rattle.xet_store.specs.Entries.{filled_with}
use Rattle.xet_store.proofs.memory.entries.fill.Given as goal

abbrev pub invariant-loop-chunk : goal.invariant-loop-chunk
invariant-loop-chunk l = l.entries ≡ filled_with l.fn.entries (take l.chunk-index l.chunks) l.name
