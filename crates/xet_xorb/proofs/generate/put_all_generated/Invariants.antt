use Rattle.std.proofs.Common.{◌≡◌, ◌++◌, take}
use Rattle.std.specs.List.{flat_map}
use Rattle.xet_xorb.specs.Generated.{chunk_of_info}
use Rattle.xet_xorb.proofs.generate.put_all_generated.Given as goal

abbrev pub invariant-loop-chunk : goal.invariant-loop-chunk
invariant-loop-chunk l = l.out.items ≡ l.fn.out.items ++ flat_map chunk_of_info (take l.chunk-index l.chunks)
