use Rattle.std.proofs.Common.{◌≡◌, ◌++◌, drop}
use Rattle.xet_plan.specs.FileBytes.{laid, segments_of}
use Rattle.xet_plan.specs.Plain.{content_in}
use Rattle.xet_plan.proofs.plain.laid.Given as goal

abbrev pub invariant-loop-placed : goal.invariant-loop-placed
invariant-loop-placed l = l.out.items ++ laid (content_in l.xorbs) (segments_of (drop l.placed-index l.met)) ≡ laid (content_in l.xorbs) (segments_of l.met)
