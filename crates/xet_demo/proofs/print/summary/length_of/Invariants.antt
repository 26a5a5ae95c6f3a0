use Rattle.xet_demo.proofs.Making.{HasCounted}
use Rattle.xet_demo.proofs.print.summary.length_of.Given as goal

abbrev pub invariant-loop-piece : goal.invariant-loop-piece
invariant-loop-piece l = HasCounted l.fn.bytes l.walk.bytes l.length

abbrev pub decreases-loop-piece : goal.decreases-loop-piece
decreases-loop-piece l = l.walk.count
