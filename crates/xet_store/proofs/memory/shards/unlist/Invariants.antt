use Rattle.std.proofs.Common.{◌≡◌, take}
use Rattle.xet_store.specs.Indexed.{without_pairs}
use Rattle.xet_store.proofs.memory.shards.unlist.Given as goal

abbrev pub invariant-loop-file : goal.invariant-loop-file
invariant-loop-file l = l.listed ≡ without_pairs l.fn.listed (take l.file-index l.files) l.serial
