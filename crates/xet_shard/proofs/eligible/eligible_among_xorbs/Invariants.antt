use Rattle.std.proofs.Common.{◌≡◌, take}
use Rattle.std.specs.List.{flat_map}
use Rattle.xet_shard.specs.Eligible.{eligible_in}
use Rattle.xet_shard.proofs.eligible.eligible_among_xorbs.Given as goal

abbrev pub invariant-loop-xorb : goal.invariant-loop-xorb
invariant-loop-xorb l = l.hashes.items ≡ flat_map eligible_in (take l.xorb-index l.xorbs)
