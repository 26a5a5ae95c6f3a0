use Rattle.std.proofs.Common.{◌∙◌, map}
use Rattle.xet_types.specs.RecordMaps.{listed}
use Rattle.xet_types.proofs.Rising.{made_none, made_more, made_all, itself, over_itself}
use Rattle.xet_types.proofs.record.copy_of_files.Goals as goal

pub loop-hash-init : goal.loop-hash-init
loop-hash-init c =
    let given = c.into_iter-hash-iterator.ensures.into_iter_gives in
    made_none itself c.new-copy.result.entries c.into_iter-hash-iterator.result c.args.files.now.entries c.new-copy.ensures.empty given.0 given.5

pub loop-hash-preserved-in_ok-insert : goal.loop-hash-preserved-in_ok-insert
loop-hash-preserved-in_ok-insert c =
    made_more itself c.loop-hash.copy.entries c.insert.new.self.entries c.in-Some.hash.now c.in-Some.terms.now c.in_ok-copied.copied c.loop-hash.hash-iterator c.next.new.self c.args.files.now.entries
    c.in_ok-insert.ensures.entries c.in-Some.ensures.steps (c.in_ok-copied.ensures.items ∙ c.deref.ensures.value) c.loop-hash.invariant

pub loop-hash-preserved : goal.loop-hash-preserved
loop-hash-preserved c =
    made_more itself c.loop-hash.copy.entries c.insert.new.self.entries c.in-Some.hash.now c.in-Some.terms.now c.in_ok-copied.copied c.loop-hash.hash-iterator c.next.new.self c.args.files.now.entries
    c.in_ok-insert.ensures.entries c.in-Some.ensures.steps (c.in_ok-copied.ensures.items ∙ c.deref.ensures.value) c.loop-hash.invariant

pub returns : goal.returns
returns c =
    made_all itself c.loop-hash.copy.entries c.loop-hash.hash-iterator c.args.files.now.entries c.in-None.ensures.steps.0 c.loop-hash.invariant ∙ over_itself (map listed c.args.files.now.entries)
