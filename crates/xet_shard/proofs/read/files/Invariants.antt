use Rattle.std.proofs.Common.{◌≡◌, ◌-◌, length}
use Rattle.xet_bytes.specs.Reading.{times_at}
use Rattle.xet_bytes.proofs.Times.{with_front}
use Rattle.xet_shard.specs.ShardReading.{listing_at}
use Rattle.xet_shard.proofs.read.files.Given as goal

abbrev pub invariant-loop : goal.invariant-loop
invariant-loop l = record {
  value : with_front l.files.items (times_at (l.count - l.counter) listing_at l.cursor) ≡ times_at l.count listing_at l.fn.cursor;
  count : length l.files.items ≡ l.counter;
}
