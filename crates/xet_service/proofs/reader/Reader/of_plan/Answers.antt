use Rattle.std.proofs.Common.{rules, ◌≡◌, ◌∙◌, List, ℕ, map, ap}
use Rattle.std.specs.List.{flat_map}
use Rattle.xet_types.specs.declared.record.XorbReconstructionTerm.{XorbReconstructionTerm}
use Rattle.xet_plan.specs.Plans.{PlanModel}
use Rattle.xet_plan.specs.Merging.{ranges_shown}
use Rattle.xet_store.proofs.Links.{Merged}
use Rattle.xet_service.specs.RunLinks.{most_runs, fresh_groups}
use Rattle.xet_service.proofs.Grouped.{opens_plan}
use Rattle.xet_service.proofs.reader.Reader.of_plan.Goals as goal

pub returns : goal.returns
returns c = λ at.
    let v = c.args.version in
    let max = c.args.max in
    let p = c.plan.inside in
    let links : c.in_ok-links.links.items ≡ flat_map (fresh_groups (most_runs v max)) c.args.plan.now.merged =
    c.in_ok-links.ensures
    ∙ ap (λ (n : ℕ). flat_map (fresh_groups n) (map ranges_shown c.deref.result.now)) c.most_runs.ensures
    ∙ ap (λ (gs : List Merged). flat_map (fresh_groups (most_runs v max)) (map ranges_shown gs)) c.deref.ensures.value
    ∙ ap (λ (q : PlanModel). flat_map (fresh_groups (most_runs v max)) q.merged) c.plan.view_is in
    let terms : c.deref-2.result.now ≡ c.args.plan.now.terms = c.deref-2.ensures.value ∙ ap (λ (q : PlanModel). q.terms) c.plan.view_is in
    let offset : p.offset_into_first_range ≡ c.args.plan.now.offset_into_first_range = ap (λ (q : PlanModel). q.offset_into_first_range) c.plan.view_is in
    opens_plan v max at c.args.plan.now c.in_ok-links.links.items c.deref-2.result.now p.offset_into_first_range c.args.range c.of_links.result links terms offset c.of_links.ensures
