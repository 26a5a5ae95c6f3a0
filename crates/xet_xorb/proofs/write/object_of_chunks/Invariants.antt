use Rattle.std.proofs.Common.{◌≡◌, take, map}
use Rattle.xet_types.specs.Names.{chunk_hash}
use Rattle.xet_xorb.specs.ChunkLists.{lengths_of}
use Rattle.xet_xorb.proofs.write.object_of_chunks.Given as goal

abbrev pub invariant-loop-chunk : goal.invariant-loop-chunk
invariant-loop-chunk l = record {
  hashes : l.hashes.items ≡ map chunk_hash (take l.chunk-index l.chunks);
  lengths : l.lengths.items ≡ lengths_of (take l.chunk-index l.chunks);
}
