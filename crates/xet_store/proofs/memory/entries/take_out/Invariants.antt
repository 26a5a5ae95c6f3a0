use Rattle.std.proofs.Common.{◌≡◌, take}
use Rattle.xet_store.specs.Entries.{without_places}
use Rattle.xet_store.proofs.memory.entries.take_out.Given as goal

abbrev pub invariant-loop-chunk : goal.invariant-loop-chunk
invariant-loop-chunk l = l.entries ≡ without_places l.fn.entries (take l.chunk-index l.chunks) l.name
