use Rattle.std.proofs.Common.{List, ℕ, ◌≤◌, ◌-◌}
use Rattle.xet_demo.specs.Script.{HasParsed}
use Rattle.xet_demo.specs.TopCall.{HasRead}
use Rattle.xet_demo.proofs.run.read_steps.Given as goal

abbrev pub invariant-pieces : goal.invariant-pieces
invariant-pieces g l = record {
  script : List ℕ;
  read : HasRead (g.S.Source.left l.fn.source) (g.S.Source.left l.source) (g.S.Source.faults l.fn.source) (g.S.Source.faults l.source) script l.length;
  parsed : HasParsed script l.parser;
}

abbrev pub decreases-pieces : goal.decreases-pieces
decreases-pieces g l = 67108864 - l.length
