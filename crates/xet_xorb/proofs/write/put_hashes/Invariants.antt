use Rattle.std.proofs.Common.{◌≡◌, ◌++◌, take}
use Rattle.std.specs.List.{flat_map}
use Rattle.xet_xorb.proofs.write.put_hashes.Given as goal

abbrev pub invariant-loop-hash : goal.invariant-loop-hash
invariant-loop-hash l = l.out.items ≡ l.fn.out.items ++ flat_map (λ hash. hash) (take l.hash-index l.hashes)
