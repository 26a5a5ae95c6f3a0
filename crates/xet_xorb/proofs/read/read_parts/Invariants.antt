use Rattle.std.proofs.Common.{◌≡◌, ◌<◌, ◌^◌, length, map}
use Rattle.xet_types.specs.Names.{chunk_hash}
use Rattle.xet_xorb.specs.Lengths.{serialized_length}
use Rattle.xet_xorb.specs.ChunkLists.{lengths_of}
use Rattle.xet_xorb.proofs.ChunkText.{IsReadSoFar}
use Rattle.xet_xorb.proofs.read.read_parts.Given as goal

abbrev pub invariant-loop-rest : goal.invariant-loop-rest
invariant-loop-rest l = record {
  so_far : IsReadSoFar l.content l.chunks.items l.rest;
  hashes : l.hashes.items ≡ map chunk_hash l.chunks.items;
  lengths : l.lengths.items ≡ lengths_of l.chunks.items;
  total : l.serialized_length ≡ serialized_length (lengths_of l.chunks.items);
  short : l.serialized_length < 2 ^ 32;
}

abbrev pub decreases-loop-rest : goal.decreases-loop-rest
decreases-loop-rest l = length l.rest
