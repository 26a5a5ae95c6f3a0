use Rattle.std.proofs.Common.{◌≡◌}
use Rattle.xet_service.proofs.pieces.Pieces.is_empty.Given as goal

abbrev pub invariant-loop-piece : goal.invariant-loop-piece
invariant-loop-piece l = l.walk.bytes ≡ l.fn.self

abbrev pub decreases-loop-piece : goal.decreases-loop-piece
decreases-loop-piece l = l.walk.count
