use Rattle.std.proofs.Common.{ℕ, List, drop}
use Rattle.std.specs.Prelude.{map}
use Rattle.xet_wire.specs.Texts.{ranges_text_from}
use Rattle.xet_wire.specs.Links.{bytes_of}
use Rattle.xet_store.specs.Responses.{descriptor_of}
use Rattle.xet_demo.specs.Pages.{Output, output}
use Rattle.xet_demo.specs.Blocks.{PrintsBlocks}
use Rattle.xet_demo.proofs.print.second_link.put_next_runs.Given as goal

abbrev pub invariant-loop-run : goal.invariant-loop-run
invariant-loop-run g l = (out : Output) (now : List ℕ) → PrintsBlocks (output (g.K.Sink.taken l.sink) (g.K.Sink.faults l.sink) l.page) out l.encoder now (ranges_text_from 1 (map bytes_of (map descriptor_of (drop l.run-index l.runs)))) → PrintsBlocks (output (g.K.Sink.taken l.fn.sink) (g.K.Sink.faults l.fn.sink) l.fn.page) out l.fn.encoder now (ranges_text_from 1 (map bytes_of (map descriptor_of l.runs)))
