use Rattle.std.proofs.Common.{ℕ, List, map, Option, Err, Ok, ap, subst}
use Rattle.std.specs.Prelude.{⊤}
use Rattle.std.proofs.lemmas.Result.{err_from_is_err_and}
use Rattle.std.proofs.lemmas.List.{take_all}
use Rattle.xet_types.specs.Faults.{refusal_of}
use Rattle.xet_types.specs.RecordMaps.{listed}
use Rattle.xet_plan.specs.Plans.{PlanModel}
use Rattle.xet_store.specs.Plans.{PlansFile, PlansSoundly}
use Rattle.xet_store.specs.Refusals.{OfPlan}
use Rattle.xet_store.specs.Batches.{whole_file, PlansAll, PlansModel}
use Rattle.xet_store.proofs.Told.{refused, plan_refusals}
use Rattle.xet_store.proofs.Batching.{SoFar, sofar_none, sofar_passed, sofar_more, sofar_refused, sofar_all, answered_as}
use Rattle.xet_store.proofs.memory.batch.take.Goals as goal

pub loop-file-init : goal.loop-file-init
loop-file-init c = sofar_none c.args.store.now _ _ (ap (λ (es : _). map listed es) c.new-terms.ensures.empty) (ap (λ (es : _). map listed es) c.new-runs.ensures.empty)

pub returns-in_err-plan-clause-answer : goal.returns-in_err-plan-clause-answer
returns-in_err-plan-clause-answer c =
    let m = c.args.store.now in
    let p = err_from_is_err_and c.from_residual.result c.from_residual.ensures.1 in
    let file = c.file-item.result in
    rw (p.1, p.2) (answered_as (PlansFile m file whole_file) (PlansAll m c.args.files.now) ⊤ (refusal_of c.in_err-plan.field-0.0)
    (λ why h. sofar_refused m c.args.files.now c.loop-file.file-index _ _ file c.loop-file-test.true c.file-item.is c.loop-file.invariant why (record { plans = h; sound = c.plan.ensures.sound })) c.in_err-plan.ensures.answer)

pub returns-in_err-plan-clause-refusals : goal.returns-in_err-plan-clause-refusals
returns-in_err-plan-clause-refusals c =
    let m = c.args.store.now in
    let p = err_from_is_err_and c.from_residual.result c.from_residual.ensures.1 in
    rw (p.1, p.2) (refused (PlansFile m c.file-item.result whole_file) ⊤ OfPlan (Err c.in_err-plan.field-0.0) (plan_refusals m c.file-item.result whole_file) c.in_err-plan.ensures.answer)

pub loop-file-preserved-in_default : goal.loop-file-preserved-in_default
loop-file-preserved-in_default c =
    let m = c.args.store.now in
    sofar_passed m c.args.files.now c.loop-file.file-index _ _ c.file-item.result c.loop-file-test.true c.file-item.is c.loop-file.invariant
    (subst (λ (o : Option PlanModel). PlansSoundly m c.file-item.result whole_file (Ok o)) c.in_default.is (record { plans = c.in_ok-plan.ensures.answer; sound = c.plan.ensures.sound }))

pub loop-file-preserved : goal.loop-file-preserved
loop-file-preserved c =
    let m = c.args.store.now in
    sofar_more m c.args.files.now c.loop-file.file-index _ _ c.file-item.result c.loop-file-test.true c.file-item.is c.loop-file.invariant c.in-Some.plan _ _
    (subst (λ (o : Option PlanModel). PlansSoundly m c.file-item.result whole_file (Ok o)) c.in-Some.is (record { plans = c.in_ok-plan.ensures.answer; sound = c.plan.ensures.sound }))
    c.in_ok-add.ensures.terms c.in_ok-add.ensures.runs

pub returns-clause-answer : goal.returns-clause-answer
returns-clause-answer c =
    let m = c.args.store.now in
    let plans : PlansModel = record { files = map listed c.loop-file.terms.entries; merged = map listed c.loop-file.runs.entries } in
    sofar_all m c.args.files.now plans (subst (λ (fs : List (List ℕ)). SoFar m fs plans.files plans.merged) (take_all c.loop-file.file-index c.args.files.now c.loop-file-test.false) c.loop-file.invariant)
