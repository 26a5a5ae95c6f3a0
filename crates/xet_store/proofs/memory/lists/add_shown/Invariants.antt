use Rattle.std.proofs.Common.{◌≡◌, drop}
use Rattle.xet_store.specs.Lists.{pairs_with, shown_as}
use Rattle.xet_store.proofs.memory.lists.add_shown.Given as goal

-- what is done, with what is left, is all
abbrev pub invariant-loop-file : goal.invariant-loop-file
invariant-loop-file l = pairs_with l.pairs (shown_as l.hidden (drop l.file-index l.files) l.name) ≡ pairs_with l.fn.pairs (shown_as l.hidden l.files l.name)
