use Rattle.xet_store.proofs.Regrouped.{regrouped}
use Rattle.xet_store.proofs.direct_access.second_plans_are_regrouped.Goals as goal

pub returns : goal.returns
returns c = regrouped
