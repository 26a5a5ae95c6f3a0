use Rattle.std.proofs.Common.{◌≡◌, map, take}
use Rattle.xet_generated.specs.Shards.{listed_xorb}
use Rattle.xet_generated.proofs.file.listed.Given as goal

abbrev pub invariant-loop-xorb : goal.invariant-loop-xorb
invariant-loop-xorb l = l.listed.items ≡ map listed_xorb (take l.xorb-index l.xorbs)
