use Rattle.std.proofs.Common.{◌≡◌, take}
use Rattle.xet_store.specs.Indexed.{with_pairs}
use Rattle.xet_store.proofs.memory.shards.list.Given as goal

abbrev pub invariant-loop-file : goal.invariant-loop-file
invariant-loop-file l = l.listed ≡ with_pairs l.fn.listed (take l.file-index l.files) l.serial
