use Rattle.std.proofs.Common.{◌≡◌, take}
use Rattle.xet_types.proofs.record.copy_of_infos.Given as goal

abbrev pub invariant-loop-info : goal.invariant-loop-info
invariant-loop-info l = l.copy.items ≡ take l.info-index l.infos
