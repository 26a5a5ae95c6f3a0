use Rattle.std.proofs.Common.{◌≡◌, ◌-◌, length}
use Rattle.xet_bytes.specs.Reading.{times_at}
use Rattle.xet_bytes.proofs.Times.{with_front}
use Rattle.xet_shard.specs.ShardReading.{listed_xorb_at}
use Rattle.xet_shard.proofs.read.xorbs.Given as goal

abbrev pub invariant-loop : goal.invariant-loop
invariant-loop l = record {
  value : with_front l.xorbs.items (times_at (l.count - l.counter) listed_xorb_at l.cursor) ≡ times_at l.count listed_xorb_at l.fn.cursor;
  count : length l.xorbs.items ≡ l.counter;
}
