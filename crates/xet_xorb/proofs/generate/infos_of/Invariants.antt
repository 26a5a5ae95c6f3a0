use Rattle.std.proofs.Common.{◌≡◌, take}
use Rattle.xet_xorb.specs.Generated.{infos_of}
use Rattle.xet_xorb.proofs.generate.infos_of.Given as goal

abbrev pub invariant-loop-seed : goal.invariant-loop-seed
invariant-loop-seed l = l.infos.items ≡ infos_of (take l.seed-index l.chunk_specs)
