use Rattle.std.proofs.Common.{◌≡◌, ◌∙◌, List, [], ◌∷◌, ◌++◌, map, Option, Err, Ok, ap, subst}
use Rattle.std.specs.Prelude.{⊤}
use Rattle.std.proofs.lemmas.Result.{err_from_is_err_and}
use Rattle.xet_types.specs.Faults.{refusal_of}
use Rattle.xet_types.specs.declared.record.XorbReconstructionTerm.{XorbReconstructionTerm}
use Rattle.xet_plan.specs.Plans.{PlanModel}
use Rattle.xet_plan.specs.Merging.{ranges_shown}
use Rattle.xet_store.specs.Plans.{PlansFile, PlansSoundly}
use Rattle.xet_store.specs.Refusals.{OfPlan}
use Rattle.xet_store.specs.Batches.{Listed, whole_file, PlansModel, PlansAll}
use Rattle.xet_store.proofs.Told.{refused, plan_refusals}
use Rattle.xet_store.proofs.Batching.{answered_as}
use Rattle.xet_store.proofs.Alone.{alone_gone, alone_planned, alone_refused}
use Rattle.xet_store.proofs.memory.batch.plan_alone.Goals as goal

pub returns-in_err-plan-clause-answer : goal.returns-in_err-plan-clause-answer
returns-in_err-plan-clause-answer c =
    let m = c.args.store.now in
    let file = c.args.only.now in
    let p = err_from_is_err_and c.from_residual.result c.from_residual.ensures.1 in
    rw (p.1, p.2) (answered_as (PlansFile m file whole_file) (PlansAll m (file ∷ [])) ⊤ (refusal_of c.in_err-plan.field-0.0) (λ why h. alone_refused m file why (record { plans = h; sound = c.plan.ensures.sound })) c.in_err-plan.ensures.answer)

pub returns-in_err-plan-clause-refusals : goal.returns-in_err-plan-clause-refusals
returns-in_err-plan-clause-refusals c =
    let m = c.args.store.now in
    let file = c.args.only.now in
    let p = err_from_is_err_and c.from_residual.result c.from_residual.ensures.1 in
    rw (p.1, p.2) (refused (PlansFile m file whole_file) ⊤ OfPlan (Err c.in_err-plan.field-0.0) (plan_refusals m file whole_file) c.in_err-plan.ensures.answer)

pub returns-in_default-clause-answer : goal.returns-in_default-clause-answer
returns-in_default-clause-answer c =
    let m = c.args.store.now in
    let file = c.args.only.now in
    let plans : PlansModel = record { files = c.new.result.items; merged = map ranges_shown c.new-in_default.result.items } in
    alone_gone m file plans c.new.ensures.items (ap (map ranges_shown) c.new-in_default.ensures.items)
    (subst (λ (o : Option PlanModel). PlansSoundly m file whole_file (Ok o)) c.in_default.is (record { plans = c.in_ok-plan.ensures.answer; sound = c.plan.ensures.sound }))

pub returns-clause-answer : goal.returns-clause-answer
returns-clause-answer c =
    let m = c.args.store.now in
    let file = c.args.only.now in
    let plan : PlanModel = c.in-Some.plan in
    let plans : PlansModel = record { files = c.push.new.self.items; merged = map ranges_shown c.plan-2.inside.merged.items } in
    let terms : c.from_vec.result ≡ plan.terms = c.from_vec.ensures ∙ ap (λ (p : PlanModel). p.terms) c.plan-2.view_is in
    let files : plans.files ≡ (file, plan.terms) ∷ [] =
    c.in_ok-push.ensures.items ∙ ap (λ (fs : List (Listed XorbReconstructionTerm)). fs ++ (file, c.from_vec.result) ∷ []) c.in_ok-files.ensures.items ∙ ap (λ (ts : List XorbReconstructionTerm). (file, ts) ∷ []) terms in
    alone_planned m file plan plans files (ap (λ (p : PlanModel). p.merged) c.plan-2.view_is)
    (subst (λ (o : Option PlanModel). PlansSoundly m file whole_file (Ok o)) c.in-Some.is (record { plans = c.in_ok-plan.ensures.answer; sound = c.plan.ensures.sound }))
