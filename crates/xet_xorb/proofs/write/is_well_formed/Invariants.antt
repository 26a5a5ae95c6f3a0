use Rattle.std.proofs.Common.{◌≡◌, ◌<◌, ◌^◌, take, All}
use Rattle.xet_xorb.specs.Lengths.{serialized_length}
use Rattle.xet_xorb.specs.ChunkLists.{IsChunk, lengths_of}
use Rattle.xet_xorb.proofs.write.is_well_formed.Given as goal

abbrev pub invariant-loop-chunk : goal.invariant-loop-chunk
invariant-loop-chunk l = record {
  each : All IsChunk (take l.chunk-index l.chunks);
  total : l.serialized_length ≡ serialized_length (lengths_of (take l.chunk-index l.chunks));
  short : l.serialized_length < 2 ^ 32;
}
