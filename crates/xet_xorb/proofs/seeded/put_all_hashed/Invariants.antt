use Rattle.std.proofs.Common.{◌≡◌, ◌-◌, ◌++◌, map}
use Rattle.rand_core.specs.Steps.{stream_of, steps_u64_high}
use Rattle.rand_xoshiro.specs.Xoshiro256.{plus_plus}
use Rattle.xet_types.specs.Names.{chunk_hash}
use Rattle.xet_xorb.specs.XorbBytes.{xorb_text}
use Rattle.xet_xorb.specs.Generated.{generated, words, seeded_chunks}
use Rattle.xet_xorb.proofs.Generating.{generated_of}
use Rattle.xet_xorb.proofs.seeded.put_all_hashed.Given as goal

abbrev pub invariant-loop-i : goal.invariant-loop-i
invariant-loop-i l = record {
  text : l.out.items ++ xorb_text (generated_of l.size (words (l.count - l._i) (stream_of (steps_u64_high plus_plus) l.rng))) ≡ l.fn.out.items ++ xorb_text (seeded_chunks l.seed l.count l.size);
  hashes : l.hashes.items ++ map chunk_hash (generated_of l.size (words (l.count - l._i) (stream_of (steps_u64_high plus_plus) l.rng))) ≡ l.fn.hashes.items ++ map chunk_hash (seeded_chunks l.seed l.count l.size);
}
