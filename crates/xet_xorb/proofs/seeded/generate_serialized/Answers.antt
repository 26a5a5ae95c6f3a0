use Rattle.std.proofs.lemmas.Bool.{false≢true}
use Rattle.xet_xorb.proofs.Generating.{seeded_formed}
use Rattle.xet_xorb.proofs.seeded.generate_serialized.Goals as goal

pub returns-then-not-are_equal_lengths : goal.returns-then-not-are_equal_lengths
returns-then-not-are_equal_lengths c = λ formed. false≢true (c.if-not-are_equal_lengths.ensures.1 ((seeded_formed c.args.seed c.args.num_chunks c.args.chunk_size).0 formed))
