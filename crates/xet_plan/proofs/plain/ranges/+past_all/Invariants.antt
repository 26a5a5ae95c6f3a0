use Rattle.std.proofs.Common.{length}
use Rattle.xet_plan.proofs.plain.ranges.+past_all.Given as goal

abbrev pub decreases-past_all : goal.decreases-past_all
decreases-past_all l = length l.chunks.now
