use Rattle.std.proofs.Common.{◌≡◌, ◌-◌, length}
use Rattle.xet_bytes.specs.Reading.{times_at}
use Rattle.xet_bytes.proofs.Times.{with_front}
use Rattle.xet_shard.specs.ShardReading.{segment_at}
use Rattle.xet_shard.proofs.read.segments.Given as goal

abbrev pub invariant-loop : goal.invariant-loop
invariant-loop l = record {
  value : with_front l.segments.items (times_at (l.count - l.counter) segment_at l.cursor) ≡ times_at l.count segment_at l.fn.cursor;
  count : length l.segments.items ≡ l.counter;
}
