use Rattle.std.proofs.Common.{ℕ, ◌-◌, ◌<◌, ◌≤◌}
use Rattle.xet_plan.specs.MetChunks.{Has}
use Rattle.xet_plan.proofs.plain.ranges.run_end.Given as goal

abbrev pub invariant-loop-end : goal.invariant-loop-end
invariant-loop-end l = record {
  from : l.from ≤ l.end;
  to : l.end ≤ l.past;
  met : (k : ℕ) → l.from ≤ k → k < l.end → Has l.chunks l.hash k;
}

abbrev pub decreases-loop-end : goal.decreases-loop-end
decreases-loop-end l = l.past - l.end
