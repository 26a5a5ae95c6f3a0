use Rattle.std.proofs.Common.{take}
use Rattle.xet_demo.specs.Pages.{Prints, output}
use Rattle.xet_demo.specs.Printed.{terms_text}
use Rattle.xet_demo.proofs.print.print_terms.Given as goal

abbrev pub invariant-loop-term : goal.invariant-loop-term
invariant-loop-term g l = Prints (output (g.K.Sink.taken l.fn.sink) (g.K.Sink.faults l.fn.sink) l.fn.page) (output (g.K.Sink.taken l.sink) (g.K.Sink.faults l.sink) l.page) (terms_text (take l.term-index l.terms))
