use Rattle.std.proofs.Common.{◌≡◌, ◌-◌, length}
use Rattle.xet_bytes.specs.Reading.{times_at}
use Rattle.xet_bytes.proofs.Times.{with_front}
use Rattle.xet_shard.specs.ShardReading.{chunk_at}
use Rattle.xet_shard.proofs.read.chunks.Given as goal

abbrev pub invariant-loop : goal.invariant-loop
invariant-loop l = record {
  value : with_front l.chunks.items (times_at (l.count - l.counter) chunk_at l.cursor) ≡ times_at l.count chunk_at l.fn.cursor;
  count : length l.chunks.items ≡ l.counter;
}
