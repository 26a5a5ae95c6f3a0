use Rattle.std.proofs.Common.{take}
use Rattle.xet_demo.specs.Pages.{Prints, output}
use Rattle.xet_demo.specs.Printed.{entries_text}
use Rattle.xet_demo.proofs.print.print_entries.Given as goal

abbrev pub invariant-loop-entry : goal.invariant-loop-entry
invariant-loop-entry g l = Prints (output (g.K.Sink.taken l.fn.sink) (g.K.Sink.faults l.fn.sink) l.fn.page) (output (g.K.Sink.taken l.sink) (g.K.Sink.faults l.sink) l.page) (entries_text (take l.entry-index l.entries))
