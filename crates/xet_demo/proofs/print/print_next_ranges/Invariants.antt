use Rattle.std.proofs.Common.{map, take}
use Rattle.std.specs.Prelude.{codes}
use Rattle.std.specs.List.{flat_map}
use Rattle.xet_store.specs.Responses.{descriptor_of}
use Rattle.xet_demo.specs.Pages.{Prints, output}
use Rattle.xet_demo.specs.Printed.{range_text}
use Rattle.xet_demo.proofs.print.print_next_ranges.Given as goal

abbrev pub invariant-loop-run : goal.invariant-loop-run
invariant-loop-run g l = Prints (output (g.K.Sink.taken l.fn.sink) (g.K.Sink.faults l.fn.sink) l.fn.page) (output (g.K.Sink.taken l.sink) (g.K.Sink.faults l.sink) l.page) (flat_map (range_text (codes ",")) (map descriptor_of (take l.run-index l.runs)))
