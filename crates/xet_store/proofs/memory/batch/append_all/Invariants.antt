use Rattle.std.proofs.Common.{◌≡◌, map}
use Rattle.xet_types.specs.RecordMaps.{listed}
use Rattle.xet_plan.specs.Merging.{ranges_shown}
use Rattle.xet_store.specs.Batches.{with_all_joined}
use Rattle.xet_store.proofs.memory.batch.append_all.Given as goal

abbrev pub invariant-loop-hash : goal.invariant-loop-hash
invariant-loop-hash l = with_all_joined (map listed l.runs.entries) (map ranges_shown l.hash-iterator.rest.items) ≡ with_all_joined (map listed l.fn.runs.entries) (map ranges_shown l.fn.merged.items)
