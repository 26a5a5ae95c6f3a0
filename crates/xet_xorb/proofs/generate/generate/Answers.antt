use Rattle.std.proofs.Common.{rules}
use Rattle.xet_xorb.specs.Generated.{generated}
use Rattle.xet_xorb.proofs.generate.generate.Goals as goal

pub returns : goal.returns
unfolding generated
returns c = search rules
