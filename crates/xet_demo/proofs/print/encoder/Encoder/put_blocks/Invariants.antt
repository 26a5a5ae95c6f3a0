use Rattle.std.proofs.Common.{◌≡◌, ℕ, List, [], length}
use Rattle.xet_demo.specs.Pages.{Output, output}
use Rattle.xet_demo.specs.Blocks.{PrintsBlocks}
use Rattle.xet_demo.proofs.print.encoder.Encoder.put_blocks.Given as goal

abbrev pub invariant-pieces : goal.invariant-pieces
invariant-pieces g l = record {
  prints : (out : Output) (now : List ℕ) → PrintsBlocks (output (g.K.Sink.taken l.sink) (g.K.Sink.faults l.sink) l.page) out [] now l.rest → PrintsBlocks (output (g.K.Sink.taken l.fn.sink) (g.K.Sink.faults l.fn.sink) l.fn.page) out [] now l.bytes;
  empty : l.self ≡ [];
}

abbrev pub decreases-pieces : goal.decreases-pieces
decreases-pieces g l = length l.rest
