use Rattle.xet_service.proofs.KeptLinks.{walk_starts, brings_some}
use Rattle.xet_service.proofs.plan_links.LinkWalk.new.Goals as goal

pub invariant_of-result : goal.invariant_of-result
invariant_of-result c = brings_some c.args.version c.args.max c.most_runs.result c.requires c.most_runs.ensures

pub returns : goal.returns
returns c = walk_starts c.args.version c.args.max c.args.at c.most_runs.result c.default.result c.args.xorbs.now c.most_runs.ensures
