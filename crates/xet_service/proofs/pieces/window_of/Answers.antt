use Rattle.xet_service.proofs.Windows.{cut_is}
use Rattle.xet_service.proofs.pieces.window_of.Goals as goal

pub returns : goal.returns
returns c = cut_is c.args.chunk.now c.args.skip c.args.left c.min.result c.min-2.result c.min.ensures c.min-2.ensures
