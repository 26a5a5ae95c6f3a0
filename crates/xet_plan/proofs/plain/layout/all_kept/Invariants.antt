use Rattle.std.proofs.Common.{◌≡◌, ◌++◌, drop}
use Rattle.std.specs.List.{flat_map}
use Rattle.xet_plan.specs.Places.{interval}
use Rattle.xet_plan.specs.MetChunks.{kept}
use Rattle.xet_plan.specs.Plain.{known_in}
use Rattle.xet_plan.proofs.plain.layout.all_kept.Given as goal

abbrev pub invariant-loop-placed : goal.invariant-loop-placed
invariant-loop-placed l = l.all.items ++ flat_map (kept (known_in l.xorbs) (interval l.start l.end)) (drop l.placed-index l.met) ≡ flat_map (kept (known_in l.xorbs) (interval l.start l.end)) l.met
