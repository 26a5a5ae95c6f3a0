use Rattle.xet_generated.proofs.Seeding.{seeded_none, seeded_more}
use Rattle.xet_generated.proofs.file.generate_all.Goals as goal

pub loop-seed-init : goal.loop-seed-init
loop-seed-init c =
    let given = c.into_iter-seed-iterator.ensures.into_iter_gives in
    seeded_none c.args.chunk_size c.new-xorbs.result.entries c.into_iter-seed-iterator.result c.args.ends.now.entries c.new-xorbs.ensures.empty given.0 given.5 c.requires

pub loop-seed-preserved-in_ok-_other : goal.loop-seed-preserved-in_ok-_other
loop-seed-preserved-in_ok-_other c =
    seeded_more c.args.chunk_size c.loop-seed.xorbs.entries c.insert.new.self.entries c.in-Some.seed.now c.in-Some.end.now c.in_ok-xorb.xorb c.loop-seed.seed-iterator c.next.new.self c.args.ends.now.entries
    c.in_ok-_other.ensures.entries c.in-Some.ensures.steps c.in_ok-xorb.ensures c.loop-seed.invariant

pub loop-seed-preserved : goal.loop-seed-preserved
loop-seed-preserved c =
    seeded_more c.args.chunk_size c.loop-seed.xorbs.entries c.insert.new.self.entries c.in-Some.seed.now c.in-Some.end.now c.in_ok-xorb.xorb c.loop-seed.seed-iterator c.next.new.self c.args.ends.now.entries
    c.in_ok-_other.ensures.entries c.in-Some.ensures.steps c.in_ok-xorb.ensures c.loop-seed.invariant
