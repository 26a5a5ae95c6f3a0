use Rattle.xet_generated.proofs.Seeding.{IsSeeded}
use Rattle.xet_generated.proofs.file.generate_all.Given as goal

abbrev pub invariant-loop-seed : goal.invariant-loop-seed
invariant-loop-seed l = IsSeeded l.chunk_size l.xorbs.entries l.seed-iterator l.fn.ends.entries
