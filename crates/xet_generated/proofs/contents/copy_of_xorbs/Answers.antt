use Rattle.std.proofs.Common.{◌∙◌}
use Rattle.xet_generated.proofs.Copies.{copied_none, copied_more, copied_all}
use Rattle.xet_generated.proofs.contents.copy_of_xorbs.Goals as goal

pub loop-hash-init : goal.loop-hash-init
loop-hash-init c =
    let given = c.into_iter-hash-iterator.ensures.into_iter_gives in
    copied_none c.new-copy.result.entries c.into_iter-hash-iterator.result c.args.xorbs.now.entries c.new-copy.ensures.empty given.0 given.5

pub loop-hash-preserved-in_ok-insert : goal.loop-hash-preserved-in_ok-insert
loop-hash-preserved-in_ok-insert c =
    copied_more c.loop-hash.copy.entries c.insert.new.self.entries c.in-Some.hash.now c.in-Some.chunks.now c.in_ok-copied.copied c.loop-hash.hash-iterator c.next.new.self c.args.xorbs.now.entries
    c.in_ok-insert.ensures.entries c.in-Some.ensures.steps (c.in_ok-copied.ensures ∙ c.deref.ensures.value) c.loop-hash.invariant

pub loop-hash-preserved : goal.loop-hash-preserved
loop-hash-preserved c =
    copied_more c.loop-hash.copy.entries c.insert.new.self.entries c.in-Some.hash.now c.in-Some.chunks.now c.in_ok-copied.copied c.loop-hash.hash-iterator c.next.new.self c.args.xorbs.now.entries
    c.in_ok-insert.ensures.entries c.in-Some.ensures.steps (c.in_ok-copied.ensures ∙ c.deref.ensures.value) c.loop-hash.invariant

pub returns : goal.returns
returns c =
    copied_all c.loop-hash.copy.entries c.loop-hash.hash-iterator c.args.xorbs.now.entries c.in-None.ensures.steps.0 c.loop-hash.invariant
