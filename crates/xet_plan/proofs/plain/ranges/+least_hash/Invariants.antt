use Rattle.std.proofs.Common.{length}
use Rattle.xet_plan.proofs.plain.ranges.+least_hash.Given as goal

abbrev pub decreases-least_hash : goal.decreases-least_hash
decreases-least_hash l = length l.chunks.now
