use Rattle.std.proofs.Common.{◌≡◌, ◌+◌, ◌≤◌, ◌++◌, filter, slice_range, sum}
use Rattle.std.specs.List.{sum_by}
use Rattle.xet_plan.specs.Places.{interval}
use Rattle.xet_plan.specs.MetChunks.{lay, is_met, span}
use Rattle.xet_plan.proofs.plain.met.kept_of.Given as goal

abbrev pub invariant-loop-number : goal.invariant-loop-number
invariant-loop-number l = record {
  places : l.at + sum (slice_range l.object.lengths l.number l.past) ≡ l.placed.at + sum (slice_range l.object.lengths l.placed.segment.chunk_index_start l.past);
  done : l.kept.items ++ filter (is_met (interval l.start l.end)) (lay l.placed.segment.xorb_hash l.number l.at (slice_range l.object.lengths l.number l.past))
      ≡ filter (is_met (interval l.start l.end)) (lay l.placed.segment.xorb_hash l.placed.segment.chunk_index_start l.placed.at (slice_range l.object.lengths l.placed.segment.chunk_index_start l.past));
  short : sum_by (λ c. c.length) l.kept.items + l.placed.at ≤ l.at;
  last : (span l.kept.items).end ≤ l.number;
}
