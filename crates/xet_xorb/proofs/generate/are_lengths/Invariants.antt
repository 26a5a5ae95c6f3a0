use Rattle.std.proofs.Common.{◌≡◌, ◌<◌, ◌^◌, map, take, All}
use Rattle.xet_xorb.specs.Lengths.{IsChunkLength, serialized_length}
use Rattle.xet_xorb.proofs.generate.are_lengths.Given as goal

abbrev pub invariant-loop-size : goal.invariant-loop-size
invariant-loop-size l = record {
  each : All (λ s. IsChunkLength s.1) (take l.size-index l.chunk_specs);
  total : l.serialized_length ≡ serialized_length (map (λ s. s.1) (take l.size-index l.chunk_specs));
  short : l.serialized_length < 2 ^ 32;
}
