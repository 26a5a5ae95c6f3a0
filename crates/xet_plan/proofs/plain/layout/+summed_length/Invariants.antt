use Rattle.std.proofs.Common.{length}
use Rattle.xet_plan.proofs.plain.layout.+summed_length.Given as goal

abbrev pub decreases-summed_length : goal.decreases-summed_length
decreases-summed_length l = length l.chunks.now
