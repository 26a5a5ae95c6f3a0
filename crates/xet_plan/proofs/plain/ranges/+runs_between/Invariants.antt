use Rattle.std.proofs.Common.{◌-◌}
use Rattle.xet_plan.proofs.plain.ranges.+runs_between.Given as goal

abbrev pub decreases-runs_between : goal.decreases-runs_between
decreases-runs_between l = l.past - l.from
