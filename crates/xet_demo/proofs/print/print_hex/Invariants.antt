use Rattle.xet_demo.proofs.Printing.{HasWalked}
use Rattle.xet_demo.specs.Pages.{output}
use Rattle.xet_demo.proofs.print.print_hex.Given as goal

abbrev pub invariant-loop-piece : goal.invariant-loop-piece
invariant-loop-piece g l = HasWalked (output (g.K.Sink.taken l.fn.sink) (g.K.Sink.faults l.fn.sink) l.fn.page) (output (g.K.Sink.taken l.sink) (g.K.Sink.faults l.sink) l.page) l.fn.bytes l.walk.bytes

abbrev pub decreases-loop-piece : goal.decreases-loop-piece
decreases-loop-piece g l = l.walk.count
