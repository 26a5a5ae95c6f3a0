use Rattle.std.proofs.Common.{◌≡◌, ◌++◌, take}
use Rattle.std.specs.List.{flat_map, AllByRecursion}
use Rattle.xet_shard.specs.ShardBytes.{IsSegment, segment_bytes}
use Rattle.xet_shard.proofs.write.put_segments.Given as goal

abbrev pub invariant-loop-segment : goal.invariant-loop-segment
invariant-loop-segment l = record {
  text : l.out.items ≡ l.fn.out.items ++ flat_map segment_bytes (take l.segment-index l.segments);
  fits : AllByRecursion IsSegment (take l.segment-index l.segments);
}
