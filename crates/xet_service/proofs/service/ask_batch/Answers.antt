use Rattle.std.proofs.Common.{◌∙◌, Ok, Err, refl, ap}
use Rattle.std.proofs.lemmas.Result.{err_from_is_err_and}
use Rattle.xet_types.specs.Faults.{refusal_of}
use Rattle.xet_store.specs.Batches.{PlansAll, batch_at}
use Rattle.xet_store.proofs.Batching.{refused_as}
use Rattle.xet_service.specs.Steps.{RepliesToAll}
use Rattle.xet_service.proofs.service.ask_batch.Goals as goal

pub returns-in_err-plans-clause-told : goal.returns-in_err-plans-clause-told
returns-in_err-plans-clause-told g c = λ m told.
    let p = err_from_is_err_and c.from_residual.result c.from_residual.ensures.1 in
    rw (p.1, p.2) (refused_as (PlansAll m c.args.files.now) (RepliesToAll m c.args.files.now c.args.at) (refusal_of c.in_err-plans.field-0.0)
    (λ why h. record { answer = Err why; responds = record { answer = Err why; plans = h; response = refl }; reply = refl }) (c.in_err-plans.ensures.told m told))

pub returns-clause-told : goal.returns-clause-told
returns-clause-told g c = λ m told. record {
  answer = Ok (batch_at c.args.at c.in_ok-plans.plans);
  responds = record { answer = Ok c.in_ok-plans.plans; plans = c.in_ok-plans.ensures.told m told; response = refl };
  reply = ap Ok c.in_ok-reply.ensures.reply;
}
