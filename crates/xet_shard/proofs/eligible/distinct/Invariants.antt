use Rattle.std.proofs.Common.{◌≡◌, take}
use Rattle.xet_shard.specs.Eligible.{distinct}
use Rattle.xet_shard.proofs.EligibleLaws.{AreSeen}
use Rattle.xet_shard.proofs.eligible.distinct.Given as goal

abbrev pub invariant-loop-hash : goal.invariant-loop-hash
invariant-loop-hash l = record { firsts : l.firsts.items ≡ distinct (take l.hash-index l.hashes); seen : AreSeen l.seen l.firsts.items }
