use Rattle.std.proofs.Common.{◌∙◌, ℕ, List, map, refl, subst, sym, ap}
use Rattle.std.proofs.lemmas.Bool.{false≢true}
use Rattle.xet_xorb.specs.Lengths.{AreLengths}
use Rattle.xet_xorb.specs.Generated.{generated_chunks, chunk_seeds, stream_of_seed}
use Rattle.xet_xorb.proofs.Generating.{seeded, seeded_formed, seeded_lengths}
use Rattle.xet_xorb.proofs.random.RandomXorb.from_seed.Goals as goal

pub returns-then-not-are_equal_lengths : goal.returns-then-not-are_equal_lengths
returns-then-not-are_equal_lengths c = λ formed. false≢true (c.if-not-are_equal_lengths.ensures.1 ((seeded_formed c.args.seed c.args.num_chunks c.args.chunk_size).0 formed))

pub xorb_of-requires : goal.xorb_of-requires
xorb_of-requires c =
    let are = c.if-not-are_equal_lengths.ensures.0 refl in
    let is = ap (λ (ss : List (ℕ × ℕ)). map (λ s. s.1) ss) (c.as_slice.ensures.value ∙ c.in_ok-chunk_specs.ensures) ∙ seeded_lengths c.args.chunk_size c.args.num_chunks (stream_of_seed c.args.seed) in
    subst AreLengths (sym is) are

pub returns : goal.returns
returns c = (
  (seeded_formed c.args.seed c.args.num_chunks c.args.chunk_size).1 (c.if-not-are_equal_lengths.ensures.0 refl),
  c.in_ok-xorb_of.ensures ∙ ap generated_chunks (c.as_slice.ensures.value ∙ c.in_ok-chunk_specs.ensures) ∙ seeded c.args.chunk_size (chunk_seeds c.args.seed c.args.num_chunks),
)
