use Rattle.xet_generated.specs.Terms.{Term}
use Rattle.xet_generated.specs.Making.{segment_of}
use Rattle.xet_generated.proofs.Pushing.{pushed}
use Rattle.xet_generated.proofs.cut.segments_of.Goals as goal

pub loop-term-preserved : goal.loop-term-preserved
loop-term-preserved c =
    let none : Term = (0, (0, 0)) in
    pushed (segment_of c.args.xorbs.now.entries) c.args.terms.now c.loop-term.term-index none c.loop-term.segments.items c.push.new.self.items c.segment_of.result c.loop-term-test.true c.loop-term.invariant c.segment_of.ensures c.in_ok-push.ensures.items
