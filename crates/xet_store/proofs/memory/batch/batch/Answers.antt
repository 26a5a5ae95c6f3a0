use Rattle.std.proofs.Common.{◌≡◌, ◌∙◌, Ok, Err, List, map, refl, sym, ap, subst}
use Rattle.std.specs.Prelude.{⊤}
use Rattle.std.proofs.lemmas.Result.{err_from_is_err_and}
use Rattle.xet_types.specs.Faults.{refusal_of}
use Rattle.xet_types.specs.Records.{FetchInfo, BatchPlan}
use Rattle.xet_types.specs.declared.record.XorbReconstructionTerm.{XorbReconstructionTerm}
use Rattle.xet_types.specs.RecordMaps.{listed}
use Rattle.xet_plan.specs.declared.runs.MergedRange.{MergedRange}
use Rattle.xet_plan.specs.Runs.{Rising}
use Rattle.xet_plan.specs.Merging.{group_of, ranges_shown}
use Rattle.xet_store.specs.Responses.{fetches_at}
use Rattle.xet_store.specs.Batches.{Listed, PlansModel, PlansAll, RespondsToAll}
use Rattle.xet_store.proofs.Links.{groups, shown_twice}
use Rattle.xet_store.proofs.Batching.{plans_rise, answered_as}
use Rattle.xet_store.proofs.memory.batch.batch.Goals as goal

pub returns-in_err-taken-clause-answer : goal.returns-in_err-taken-clause-answer
returns-in_err-taken-clause-answer c =
    let m = c.args.store.now in
    let p = err_from_is_err_and c.from_residual.result c.from_residual.ensures.1 in
    rw (p.1, p.2) (answered_as (PlansAll m c.args.files.now) (RespondsToAll m c.args.files.now c.args.at) ⊤ (refusal_of c.in_err-taken.field-0.0) (λ why h. record { answer = Err why; plans = h; response = refl }) c.in_err-taken.ensures.answer)

pub links-requires : goal.links-requires
links-requires c =
    let plans : PlansModel = c.in_ok-taken.taken in
    let runs : map ranges_shown c.in_ok-merged.merged.items ≡ plans.merged = c.in_ok-merged.ensures ∙ ap (λ (p : PlansModel). p.merged) c.taken.view_is in
    record {
      rising = subst Rising (sym (ap groups c.deref.ensures.value ∙ shown_twice group_of c.in_ok-merged.merged.items))
          (subst (λ (gs : List (Listed MergedRange)). Rising (map group_of gs)) (sym runs) (plans_rise c.args.store.now c.args.files.now plans c.in_ok-taken.ensures.answer));
    }

pub returns-clause-answer : goal.returns-clause-answer
returns-clause-answer c =
    let plans : PlansModel = c.in_ok-taken.taken in
    let runs : map ranges_shown c.in_ok-merged.merged.items ≡ plans.merged = c.in_ok-merged.ensures ∙ ap (λ (p : PlansModel). p.merged) c.taken.view_is in
    let files : map listed c.taken.inside.terms.entries ≡ plans.files = ap (λ (p : PlansModel). p.files) c.taken.view_is in
    let links : map listed c.in_ok-fetch_info.fetch_info.entries ≡ map (fetches_at c.args.at) plans.merged =
    c.in_ok-fetch_info.ensures ∙ ap (map (λ g. fetches_at c.args.at (ranges_shown g))) c.deref.ensures.value ∙ shown_twice (fetches_at c.args.at) c.in_ok-merged.merged.items ∙ ap (map (fetches_at c.args.at)) runs in
    let made : List (Listed XorbReconstructionTerm) → List (Listed FetchInfo) → BatchPlan = λ fs ls. record { files = fs; fetch_info = ls } in
    record { answer = Ok plans; plans = c.in_ok-taken.ensures.answer; response = ap Ok (λ j. made (files j) (links j)) }
