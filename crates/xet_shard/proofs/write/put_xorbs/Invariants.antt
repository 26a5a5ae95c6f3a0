use Rattle.std.proofs.Common.{◌≡◌, ◌++◌, take}
use Rattle.std.specs.List.{flat_map, AllByRecursion}
use Rattle.xet_shard.specs.ShardBytes.{IsListedXorb, listed_xorb_bytes}
use Rattle.xet_shard.proofs.write.put_xorbs.Given as goal

abbrev pub invariant-loop-xorb : goal.invariant-loop-xorb
invariant-loop-xorb l = record {
  text : l.out.items ≡ l.fn.out.items ++ flat_map listed_xorb_bytes (take l.xorb-index l.xorbs);
  fits : AllByRecursion IsListedXorb (take l.xorb-index l.xorbs);
}
