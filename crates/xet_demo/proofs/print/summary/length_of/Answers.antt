use Rattle.xet_demo.proofs.Making.{counts_on, has_counted, counts_from}
use Rattle.xet_demo.proofs.print.summary.length_of.Goals as goal

pub loop-piece-init : goal.loop-piece-init
loop-piece-init c = counts_from c.args.bytes.now _ c.walk-walk.ensures

pub loop-piece-preserved : goal.loop-piece-preserved
loop-piece-preserved c = counts_on c.args.bytes.now _ c.in-Some.piece.now _ _ _ c.loop-piece.invariant c.in-Some.ensures.bytes c.saturating_add-length.ensures

pub returns : goal.returns
returns c = has_counted c.args.bytes.now _ _ c.loop-piece.invariant c.in_default.ensures
