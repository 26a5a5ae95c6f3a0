use Rattle.std.proofs.Common.{◌≡◌, ◌++◌, map}
use Rattle.xet_types.specs.RecordMaps.{listed}
use Rattle.xet_plan.specs.Merging.{ranges_shown}
use Rattle.xet_store.proofs.memory.batch.runs_of_xorbs.Given as goal

abbrev pub invariant-loop-hash : goal.invariant-loop-hash
invariant-loop-hash l = map ranges_shown l.merged.items ++ map listed l.hash-iterator ≡ map listed l.fn.runs.entries
