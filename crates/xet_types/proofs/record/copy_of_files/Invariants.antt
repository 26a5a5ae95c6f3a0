use Rattle.xet_types.proofs.Rising.{IsMade, itself}
use Rattle.xet_types.proofs.record.copy_of_files.Given as goal

abbrev pub invariant-loop-hash : goal.invariant-loop-hash
invariant-loop-hash l = IsMade itself l.copy.entries l.hash-iterator l.fn.files.entries
