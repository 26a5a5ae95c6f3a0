use Rattle.xet_demo.specs.Pages.{output}
use Rattle.xet_demo.proofs.Printing.{walk_starts, walks_on, has_walked}
use Rattle.xet_demo.proofs.print.print_hex.Goals as goal

pub loop-piece-init : goal.loop-piece-init
loop-piece-init g c =
    walk_starts (output (g.K.Sink.taken c.args.sink.now) (g.K.Sink.faults c.args.sink.now) c.args.page.now) c.args.bytes.now _ c.walk-walk.ensures

pub loop-piece-preserved : goal.loop-piece-preserved
loop-piece-preserved g c =
    walks_on _ _ _ c.args.bytes.now _ c.in-Some.piece.now _ c.loop-piece.invariant c.in-Some.ensures.bytes c.put_hex.ensures

pub returns : goal.returns
returns g c = has_walked _ _ c.args.bytes.now _ c.loop-piece.invariant c.in_default.ensures
