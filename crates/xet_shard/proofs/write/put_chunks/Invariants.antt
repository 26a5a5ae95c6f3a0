use Rattle.std.proofs.Common.{◌≡◌, ◌++◌, take}
use Rattle.std.specs.List.{flat_map, AllByRecursion}
use Rattle.xet_shard.specs.ShardBytes.{IsChunkListing, chunk_bytes}
use Rattle.xet_shard.proofs.write.put_chunks.Given as goal

abbrev pub invariant-loop-chunk : goal.invariant-loop-chunk
invariant-loop-chunk l = record {
  text : l.out.items ≡ l.fn.out.items ++ flat_map chunk_bytes (take l.chunk-index l.chunks);
  fits : AllByRecursion IsChunkListing (take l.chunk-index l.chunks);
}
