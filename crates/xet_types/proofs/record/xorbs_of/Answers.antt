use Rattle.xet_types.specs.Records.{fetches_of}
use Rattle.xet_types.proofs.Rising.{made_none, made_more, made_all}
use Rattle.xet_types.proofs.record.xorbs_of.Goals as goal

pub loop-hash-init : goal.loop-hash-init
loop-hash-init c =
    let given = c.into_iter-hash-iterator.ensures.into_iter_gives in
    made_none fetches_of c.new-xorbs.result.entries c.into_iter-hash-iterator.result c.args.fetch_info.entries c.new-xorbs.ensures.empty given.0 given.5

pub loop-hash-preserved-in_ok-insert : goal.loop-hash-preserved-in_ok-insert
loop-hash-preserved-in_ok-insert c =
    made_more fetches_of c.loop-hash.xorbs.entries c.insert.new.self.entries c.in-Some.hash c.in-Some.infos c.in_ok-fetches.fetches c.loop-hash.hash-iterator c.next.new.self c.args.fetch_info.entries
    c.in_ok-insert.ensures.entries c.in-Some.ensures.steps c.in_ok-fetches.ensures c.loop-hash.invariant

pub loop-hash-preserved : goal.loop-hash-preserved
loop-hash-preserved c =
    made_more fetches_of c.loop-hash.xorbs.entries c.insert.new.self.entries c.in-Some.hash c.in-Some.infos c.in_ok-fetches.fetches c.loop-hash.hash-iterator c.next.new.self c.args.fetch_info.entries
    c.in_ok-insert.ensures.entries c.in-Some.ensures.steps c.in_ok-fetches.ensures c.loop-hash.invariant

pub returns : goal.returns
returns c = made_all fetches_of c.loop-hash.xorbs.entries c.loop-hash.hash-iterator c.args.fetch_info.entries c.in-None.ensures.steps.0 c.loop-hash.invariant
