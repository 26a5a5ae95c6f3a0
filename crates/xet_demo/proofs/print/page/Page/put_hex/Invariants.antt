use Rattle.std.proofs.Common.{length}
use Rattle.hex.specs.Hex.{encode_lower}
use Rattle.xet_demo.specs.Pages.{Output, Prints, output}
use Rattle.xet_demo.proofs.print.page.Page.put_hex.Given as goal

abbrev pub invariant-pieces : goal.invariant-pieces
invariant-pieces g l = (out : Output) → Prints (output (g.K.Sink.taken l.sink) (g.K.Sink.faults l.sink) l.self) out (encode_lower l.rest) → Prints (output (g.K.Sink.taken l.fn.sink) (g.K.Sink.faults l.fn.sink) l.fn.self) out (encode_lower l.bytes)

abbrev pub decreases-pieces : goal.decreases-pieces
decreases-pieces g l = length l.rest
