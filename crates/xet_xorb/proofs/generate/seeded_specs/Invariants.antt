use Rattle.std.proofs.Common.{◌≡◌, ◌-◌, ◌++◌}
use Rattle.rand_core.specs.Steps.{stream_of, steps_u64_high}
use Rattle.rand_xoshiro.specs.Xoshiro256.{plus_plus}
use Rattle.xet_xorb.specs.Generated.{words, chunk_seeds, seeded_specs}
use Rattle.xet_xorb.proofs.generate.seeded_specs.Given as goal

abbrev pub invariant-loop-i : goal.invariant-loop-i
invariant-loop-i l = l.chunk_specs.items ++ seeded_specs l.size (words (l.count - l._i) (stream_of (steps_u64_high plus_plus) l.rng)) ≡ seeded_specs l.size (chunk_seeds l.seed l.count)
