use Rattle.std.proofs.Common.{◌≡◌, ◌^◌, ◌-◌, take}
use Rattle.std.specs.Prelude.{min, sum_by}
use Rattle.xet_shard.specs.ShardLengths.{listed_xorb_len}
use Rattle.xet_shard.proofs.write.xorbs_len.Given as goal

abbrev pub invariant-loop-xorb : goal.invariant-loop-xorb
invariant-loop-xorb l = l.len ≡ min (sum_by listed_xorb_len (take l.xorb-index l.xorbs)) (2 ^ 64 - 1)
