use Rattle.std.proofs.Common.{length}
use Rattle.xet_plan.proofs.plain.layout.+read_all.Given as goal

abbrev pub decreases-read_all : goal.decreases-read_all
decreases-read_all l = length l.met.now
