use Rattle.std.proofs.Common.{◌≡◌, ◌++◌, take}
use Rattle.std.specs.List.{flat_map, AllByRecursion}
use Rattle.xet_shard.specs.ShardBytes.{IsListing, listing_bytes}
use Rattle.xet_shard.proofs.write.put_files.Given as goal

abbrev pub invariant-loop-file : goal.invariant-loop-file
invariant-loop-file l = record {
  text : l.out.items ≡ l.fn.out.items ++ flat_map listing_bytes (take l.file-index l.files);
  fits : AllByRecursion IsListing (take l.file-index l.files);
}
