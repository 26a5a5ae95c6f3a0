use Rattle.xet_service.proofs.Repeating.{determined}
use Rattle.xet_service.proofs.run.replies_are_determined.Goals as goal

pub returns : goal.returns
returns c = determined
