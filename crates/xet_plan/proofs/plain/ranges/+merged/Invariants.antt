use Rattle.std.proofs.Common.{length}
use Rattle.xet_plan.proofs.plain.ranges.+merged.Given as goal

abbrev pub decreases-merged : goal.decreases-merged
decreases-merged l = length l.chunks.now
