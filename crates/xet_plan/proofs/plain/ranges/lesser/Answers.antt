use Rattle.std.proofs.Common.{sym, inl, inr}
use Rattle.xet_plan.proofs.Order.{same_from_equal, turned}
use Rattle.xet_plan.proofs.plain.ranges.lesser.Goals as goal

pub returns-in-Greater-clause-first : goal.returns-in-Greater-clause-first
returns-in-Greater-clause-first c = inr (turned c.args.b c.args.a (sym c.in-Greater.ensures))

pub returns-in-Equal-clause-second : goal.returns-in-Equal-clause-second
returns-in-Equal-clause-second c = inl (same_from_equal c.args.a c.args.b (sym c.in-Equal.ensures))
