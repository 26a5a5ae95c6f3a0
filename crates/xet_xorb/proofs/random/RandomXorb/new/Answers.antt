use Rattle.std.proofs.Common.{subst}
use Rattle.std.proofs.lemmas.Bool.{false≢true}
use Rattle.xet_xorb.specs.Lengths.{AreLengths}
use Rattle.xet_xorb.proofs.Generating.{lengths_of_generated}
use Rattle.xet_xorb.proofs.random.RandomXorb.new.Goals as goal

pub returns-then-not-are_lengths : goal.returns-then-not-are_lengths
returns-then-not-are_lengths c = λ formed. false≢true (c.if-not-are_lengths.ensures.1 (subst AreLengths (lengths_of_generated c.args.chunk_specs.now) formed.lengths))
