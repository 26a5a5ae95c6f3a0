use Rattle.std.proofs.Common.{length}
use Rattle.xet_demo.specs.Pages.{Output, Prints, output}
use Rattle.xet_demo.specs.Printed.{xorb_entries_text}
use Rattle.xet_demo.proofs.print.print_xorb_entries.Given as goal

abbrev pub invariant-loop-link : goal.invariant-loop-link
invariant-loop-link g l = (out : Output) → Prints (output (g.K.Sink.taken l.sink) (g.K.Sink.faults l.sink) l.page) out (xorb_entries_text l.walk) → Prints (output (g.K.Sink.taken l.fn.sink) (g.K.Sink.faults l.fn.sink) l.fn.page) out (xorb_entries_text l.fn.links)

abbrev pub decreases-loop-link : goal.decreases-loop-link
decreases-loop-link g l = length l.walk
