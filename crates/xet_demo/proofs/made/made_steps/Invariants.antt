use Rattle.std.proofs.Common.{◌≡◌}
use Rattle.xet_demo.specs.Making.{made_steps}
use Rattle.xet_demo.proofs.made.made_steps.Given as goal

abbrev pub invariant-loop-number : goal.invariant-loop-number
invariant-loop-number l = l.steps.items ≡ made_steps l.number
