use Rattle.xet_service.proofs.Windows.{next_chunk}
use Rattle.xet_service.proofs.pieces.Walk.next.Goals as goal

pub returns-in_ok-chunk-in-None : goal.returns-in_ok-chunk-in-None
returns-in_ok-chunk-in-None c =
    next_chunk c.args.self.now c.self.inside.pieces.now c.self.inside.chunks c.next.new.self c.in_ok-chunk-in-None.chunk.now c.window_of-part.result.now c.self.inside.skip c.self.inside.left _ _
    c.self.view_is c.in-None.ensures.cases c.in_ok-chunk-in-None.ensures c.window_of-part.ensures c.saturating_sub-self-inside.ensures c.saturating_sub-self-inside-in-None.ensures
