use Rattle.std.proofs.Common.{◌≡◌, [], length}
use Rattle.xet_demo.specs.Pages.{Output, Prints, output}
use Rattle.xet_demo.proofs.print.page.Page.put_long.Given as goal

abbrev pub invariant-pieces : goal.invariant-pieces
invariant-pieces g l = record {
  prints : (out : Output) → Prints (output (g.K.Sink.taken l.sink) (g.K.Sink.faults l.sink) l.self) out l.rest → Prints (output (g.K.Sink.taken l.fn.sink) (g.K.Sink.faults l.fn.sink) l.fn.self) out l.bytes;
  empty : l.self.text ≡ [];
}

abbrev pub decreases-pieces : goal.decreases-pieces
decreases-pieces g l = length l.rest
