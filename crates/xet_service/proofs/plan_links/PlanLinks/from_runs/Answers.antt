use Rattle.xet_service.proofs.KeptLinks.{first_kept, first_fit}
use Rattle.xet_service.proofs.plan_links.PlanLinks.from_runs.Goals as goal

pub returns-clause-links : goal.returns-clause-links
returns-clause-links c = first_kept 1 c.args.at c.args.xorbs.items c.of_plan.result c.of_plan.ensures.links

pub returns-clause-counted : goal.returns-clause-counted
returns-clause-counted c = first_fit 1 c.args.at c.args.xorbs.items c.of_plan.result c.of_plan.ensures.counted
