use Rattle.std.proofs.Common.{◌≡◌, take}
use Rattle.xet_store.specs.Entries.{filled, HavePlaces}
use Rattle.xet_store.proofs.memory.entries.reserve.Given as goal

abbrev pub invariant-loop-chunk : goal.invariant-loop-chunk
invariant-loop-chunk l = record { same : filled l.entries ≡ filled l.fn.entries; places : HavePlaces l.entries (take l.chunk-index l.chunks) }
