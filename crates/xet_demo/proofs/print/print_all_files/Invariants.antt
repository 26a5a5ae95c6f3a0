use Rattle.std.proofs.Common.{take}
use Rattle.xet_demo.specs.Pages.{Prints, output}
use Rattle.xet_demo.specs.Printed.{all_files_text}
use Rattle.xet_demo.proofs.print.print_all_files.Given as goal

abbrev pub invariant-loop-file : goal.invariant-loop-file
invariant-loop-file g l = Prints (output (g.K.Sink.taken l.fn.sink) (g.K.Sink.faults l.fn.sink) l.fn.page) (output (g.K.Sink.taken l.sink) (g.K.Sink.faults l.sink) l.page) (all_files_text (take l.file-index l.files))
