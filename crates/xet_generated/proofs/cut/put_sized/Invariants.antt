use Rattle.std.proofs.Common.{◌≡◌, ◌++◌, map, take}
use Rattle.xet_xorb.specs.Generated.{hash_and_size}
use Rattle.xet_generated.proofs.cut.put_sized.Given as goal

abbrev pub invariant-loop-k : goal.invariant-loop-k
invariant-loop-k l = l.out.items ≡ l.fn.out.items ++ map hash_and_size (take l.k l.chunks)
