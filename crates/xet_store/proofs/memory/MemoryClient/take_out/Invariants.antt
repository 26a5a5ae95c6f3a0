use Rattle.std.proofs.Common.{◌≡◌, take}
use Rattle.xet_store.specs.Undoing.{without_xorbs}
use Rattle.xet_store.proofs.memory.MemoryClient.take_out.Given as goal

abbrev pub invariant-loop-hash : goal.invariant-loop-hash
invariant-loop-hash l = l.self ≡ without_xorbs l.fn.self (take l.hash-index l.hashes)
