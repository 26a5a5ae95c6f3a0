use Rattle.std.proofs.Common.{take}
use Rattle.xet_demo.specs.Pages.{Prints, output}
use Rattle.xet_demo.specs.Printed.{hashes_text}
use Rattle.xet_demo.proofs.print.print_hashes.Given as goal

abbrev pub invariant-loop-hash : goal.invariant-loop-hash
invariant-loop-hash g l = Prints (output (g.K.Sink.taken l.fn.sink) (g.K.Sink.faults l.fn.sink) l.fn.page) (output (g.K.Sink.taken l.sink) (g.K.Sink.faults l.sink) l.page) (hashes_text (take l.hash-index l.hashes))
