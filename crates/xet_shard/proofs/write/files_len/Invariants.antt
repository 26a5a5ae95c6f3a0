use Rattle.std.proofs.Common.{◌≡◌, ◌^◌, ◌-◌, take}
use Rattle.std.specs.Prelude.{min, sum_by}
use Rattle.xet_shard.specs.ShardLengths.{listing_len}
use Rattle.xet_shard.proofs.write.files_len.Given as goal

abbrev pub invariant-loop-file : goal.invariant-loop-file
invariant-loop-file l = l.len ≡ min (sum_by listing_len (take l.file-index l.files)) (2 ^ 64 - 1)
