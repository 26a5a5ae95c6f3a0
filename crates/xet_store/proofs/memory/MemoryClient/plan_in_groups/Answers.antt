use Rattle.std.specs.Prelude.{⊤}
use Rattle.std.proofs.Common.{Err}
use Rattle.std.proofs.lemmas.Result.{err_from_is_err_and}
use Rattle.xet_store.specs.Plans.{PlansFile}
use Rattle.xet_store.specs.Refusals.{OfPlan}
use Rattle.xet_store.proofs.Told.{refused, plan_refusals}
use Rattle.xet_store.proofs.memory.MemoryClient.plan_in_groups.Goals as goal

pub returns-in_err-plan-clause-refusals : goal.returns-in_err-plan-clause-refusals
returns-in_err-plan-clause-refusals c =
    let m = c.args.self.now in
    let p = err_from_is_err_and c.from_residual.result c.from_residual.ensures.1 in
    rw (p.1, p.2) (refused (PlansFile m c.args.file.now c.args.range) ⊤ OfPlan (Err c.in_err-plan.field-0.0) (plan_refusals m c.args.file.now c.args.range) c.in_err-plan.ensures.answer)
