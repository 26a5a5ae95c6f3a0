use Rattle.std.proofs.Common.{List, ℕ, Option, ◌≤◌, ◌-◌, ◌++◌}
use Rattle.xet_demo.specs.TopCall.{HasRead}
use Rattle.xet_demo.proofs.run.read_past.Given as goal

abbrev pub invariant-pieces : goal.invariant-pieces
invariant-pieces g l = record {
  short : l.length ≤ 67108864;
  read : (start : Option (List ℕ)) (before : ℕ) (script : List ℕ) → HasRead start (g.S.Source.left l.fn.source) before (g.S.Source.faults l.fn.source) script l.fn.length → (more : List ℕ) × HasRead start (g.S.Source.left l.source) before (g.S.Source.faults l.source) (script ++ more) l.length;
}

abbrev pub decreases-pieces : goal.decreases-pieces
decreases-pieces g l = 67108864 - l.length
