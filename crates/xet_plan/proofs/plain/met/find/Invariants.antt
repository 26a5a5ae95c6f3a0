use Rattle.std.proofs.Common.{◌≡◌, drop}
use Rattle.xet_plan.specs.Plain.{first_named}
use Rattle.xet_plan.proofs.plain.met.find.Given as goal

abbrev pub invariant-loop-name : goal.invariant-loop-name
invariant-loop-name g l = first_named l.hash (drop l.name-index l.xorbs) ≡ first_named l.hash l.xorbs
