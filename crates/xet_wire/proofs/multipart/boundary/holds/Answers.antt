use Rattle.xet_wire.proofs.Words.{stands_at, stands_nowhere}
use Rattle.xet_wire.proofs.multipart.boundary.holds.Goals as goal

pub returns-in-Some : goal.returns-in-Some
returns-in-Some c = record { before = _; after = _; parts = stands_at _ _ _ c.in-Some.ensures.1 }

pub returns-in-None : goal.returns-in-None
returns-in-None c = stands_nowhere _ _ c.in-None.ensures
