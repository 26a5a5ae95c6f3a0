use Rattle.std.proofs.Common.{◌-◌, ◌+◌, ◌<◌, ◌≤◌, length}
use Rattle.xet_xorb.specs.Lengths.{packed_before}
use Rattle.xet_xorb.proofs.random.chunk_at.Given as goal

abbrev pub invariant-loop-first : goal.invariant-loop-first
invariant-loop-first l = record {
  order : l.first ≤ l.last;
  within : l.last ≤ length l.object.lengths;
  from : packed_before l.object.lengths l.first ≤ l.at;
  before : l.last < length l.object.lengths → l.at < packed_before l.object.lengths (l.last + 1);
}

abbrev pub decreases-loop-first : goal.decreases-loop-first
decreases-loop-first l = l.last - l.first
