use Rattle.std.proofs.Common.{List, ℕ, ◌≤◌, ◌+◌, length}
use Rattle.xet_demo.specs.Script.{IsParsedTo}
use Rattle.xet_demo.proofs.script.add_lines.Given as goal

abbrev pub invariant-lines : goal.invariant-lines
invariant-lines l = record {
  parsed : (all : List ℕ) → IsParsedTo all l.text l.fn.number l.fn.steps.items → IsParsedTo all l.rest l.number l.steps.items;
  few : l.number + length l.rest ≤ l.fn.number + length l.text;
}

abbrev pub decreases-lines : goal.decreases-lines
decreases-lines l = length l.rest
