use Rattle.std.proofs.Common.{map, take}
use Rattle.xet_types.specs.RecordMaps.{listed}
use Rattle.xet_store.proofs.Batching.{SoFar}
use Rattle.xet_store.proofs.memory.batch.take.Given as goal

abbrev pub invariant-loop-file : goal.invariant-loop-file
invariant-loop-file l = SoFar l.store (take l.file-index l.files) (map listed l.terms.entries) (map listed l.runs.entries)
