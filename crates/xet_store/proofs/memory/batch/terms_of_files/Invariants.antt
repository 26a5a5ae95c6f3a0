use Rattle.std.proofs.Common.{◌≡◌, ◌++◌, map}
use Rattle.xet_types.specs.RecordMaps.{listed}
use Rattle.xet_store.proofs.memory.batch.terms_of_files.Given as goal

abbrev pub invariant-loop-hash : goal.invariant-loop-hash
invariant-loop-hash l = l.files.items ++ map listed l.hash-iterator ≡ map listed l.fn.terms.entries
