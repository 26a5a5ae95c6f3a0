use Rattle.std.proofs.Common.{◌≡◌, ◌∙◌, refl, ap, subst, Option, Some, None, Ok, Err}
use Rattle.std.proofs.lemmas.Result.{err_from_is_err_and}
use Rattle.xet_types.specs.Faults.{refusal_of}
use Rattle.xet_plan.specs.Plans.{PlanModel}
use Rattle.xet_store.specs.Plans.{PlansSoundly}
use Rattle.xet_store.specs.Responses.{RespondsBy}
use Rattle.xet_service.specs.Links.{answer_of}
use Rattle.xet_service.specs.World.{state}
use Rattle.xet_service.specs.Steps.{PlansBy, open_plan}
use Rattle.xet_service.proofs.Doing.{leaves_same, asked_does}
use Rattle.xet_service.proofs.Grouped.{responds}
use Rattle.xet_service.proofs.Serving.{plan_does}
use Rattle.xet_store.specs.Answered.{Answered}
use Rattle.xet_service.proofs.service.ChunkService.plan.Goals as goal

pub returns-in_err-plan-clause-told : goal.returns-in_err-plan-clause-told
returns-in_err-plan-clause-told g c = λ m told.
    let s = c.args.self.now in
    let p = err_from_is_err_and c.from_residual.result c.from_residual.ensures.1 in
    rw (p.1, p.2) (leaves_same m _ (g.K.Client.told c.plan_file.new.self) (c.plan_file.ensures.stays ∙ told)
    (asked_does m s.reads s.next (PlansSoundly m c.args.file.now c.args.range) (PlansBy (state m s.reads s.next) c.args.version c.args.file.now c.args.range c.args.at) (refusal_of c.in_err-plan.field-0.0)
    (λ why h. record { answer = Err why; responds = responds c.args.version m c.args.file.now c.args.range c.args.at (Err why) h; step = refl }) (c.in_err-plan.ensures.told m told)))

pub returns-in_default-clause-told : goal.returns-in_default-clause-told
returns-in_default-clause-told g c = λ m told.
    let none : PlansSoundly m c.args.file.now c.args.range (Ok None) = subst (λ (o : Option PlanModel). PlansSoundly m c.args.file.now c.args.range (Ok o)) c.in_default.is (c.in_ok-plan.ensures.told m told) in
    leaves_same m _ (g.K.Client.told c.plan_file.new.self) (c.plan_file.ensures.stays ∙ told)
    (record { answer = Ok None; responds = responds c.args.version m c.args.file.now c.args.range c.args.at (Ok None) none; step = refl })

pub returns-clause-told : goal.returns-clause-told
returns-clause-told g c = λ m told.
    let s = c.args.self.now in
    let after = c.open.new.self in
    let planned : PlansSoundly m c.args.file.now c.args.range (Ok (Some c.in-Some.plan)) = subst (λ (o : Option PlanModel). PlansSoundly m c.args.file.now c.args.range (Ok o)) c.in-Some.is (c.in_ok-plan.ensures.told m told) in
    let same : c.max_ranges_per_fetch-max.result ≡ m.max_ranges = c.max_ranges_per_fetch-max.ensures.told m (c.plan_file.ensures.stays ∙ told) in
    leaves_same m _ (g.K.Client.told after.store) (ap g.K.Client.told c.open.ensures.store ∙ c.max_ranges_per_fetch-max.ensures.stays ∙ c.plan_file.ensures.stays ∙ told)
    (plan_does m s.reads after.reads s.next after.next c.args.version c.args.file.now c.args.range c.args.at (answer_of c.args.version m.max_ranges c.args.at c.in-Some.plan)
    (responds c.args.version m c.args.file.now c.args.range c.args.at (Ok (Some c.in-Some.plan)) planned) c.open.result
    (subst (λ max. Answered c.open.result (λ r. open_plan (state m s.reads s.next) c.args.version (answer_of c.args.version max c.args.at c.in-Some.plan) c.args.range c.args.at ≡ (r, state m after.reads after.next)) (state m after.reads after.next ≡ state m s.reads s.next)) same (c.open.ensures.opens m)))
