use Rattle.std.proofs.Common.{take}
use Rattle.std.specs.List.{flat_map}
use Rattle.sha2.specs.Hashers.{Holds256}
use Rattle.xet_types.specs.Names.{sized_chunk}
use Rattle.xet_types.proofs.hash.file_hash_with_salt.Given as goal

abbrev pub invariant-loop-hash : goal.invariant-loop-hash
invariant-loop-hash l = Holds256 l.hasher (flat_map sized_chunk (take l.hash-index l.chunks))
