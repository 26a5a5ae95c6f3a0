use Rattle.std.proofs.Common.{◌≡◌, ◌+◌, length}
use Rattle.xet_demo.specs.Pages.{Output, Prints, output}
use Rattle.xet_demo.specs.Printed.{links_text}
use Rattle.xet_demo.proofs.print.print_links.Given as goal

abbrev pub invariant-loop-link : goal.invariant-loop-link
invariant-loop-link g l = record {
  prints : (out : Output) → Prints (output (g.K.Sink.taken l.sink) (g.K.Sink.faults l.sink) l.page) out (links_text l.number l.walk) → Prints (output (g.K.Sink.taken l.fn.sink) (g.K.Sink.faults l.fn.sink) l.fn.page) out (links_text 0 l.fn.links);
  counted : l.number + length l.walk ≡ length l.fn.links;
}

abbrev pub decreases-loop-link : goal.decreases-loop-link
decreases-loop-link g l = length l.walk
