use Rattle.std.proofs.Common.{◌≡◌, take}
use Rattle.xet_store.specs.StoreModel.{shown}
use Rattle.xet_store.proofs.memory.show.Given as goal

abbrev pub invariant-loop-file : goal.invariant-loop-file
invariant-loop-file l = l.hidden ≡ shown l.fn.hidden (take l.file-index l.files)
