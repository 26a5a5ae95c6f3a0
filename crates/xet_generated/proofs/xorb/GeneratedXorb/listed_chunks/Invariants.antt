use Rattle.std.proofs.Common.{◌≡◌, take}
use Rattle.xet_generated.specs.Shards.{listed_chunks}
use Rattle.xet_generated.proofs.xorb.GeneratedXorb.listed_chunks.Given as goal

abbrev pub invariant-loop-k : goal.invariant-loop-k
invariant-loop-k l = l.listed.items ≡ listed_chunks 0 (take l.k l.self)
