use Rattle.std.proofs.Common.{length}
use Rattle.xet_plan.proofs.plain.ranges.+has.Given as goal

abbrev pub decreases-has : goal.decreases-has
decreases-has l = length l.chunks.now
