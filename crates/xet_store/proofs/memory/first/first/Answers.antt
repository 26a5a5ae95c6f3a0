use Rattle.std.proofs.Common.{◌∙◌, List, map, ℕ, sym, ap, subst}
use Rattle.xet_types.specs.Records.{FetchInfo, FirstPlan}
use Rattle.xet_plan.specs.Plans.{PlanModel}
use Rattle.xet_plan.specs.Runs.{Rising}
use Rattle.xet_plan.specs.Merging.{group_of, ranges_shown}
use Rattle.xet_plan.specs.Answers.{groups_of}
use Rattle.xet_store.specs.Responses.{fetches_at, first_of}
use Rattle.xet_store.proofs.Links.{groups, shown_twice}
use Rattle.xet_store.proofs.memory.first.first.Goals as goal

pub links-requires : goal.links-requires
links-requires c = record {
  rising = subst Rising (sym (ap groups c.deref.ensures.value ∙ shown_twice group_of c.plan.inside.merged.items)) (subst (λ (p : PlanModel). Rising (groups_of p)) (sym c.plan.view_is) c.requires);
}

pub returns : goal.returns
returns c =
    let p = c.plan.inside in
    let made : List (List ℕ × List FetchInfo) → FirstPlan = λ links. record { offset_into_first_range = p.offset_into_first_range; terms = p.terms.items; fetch_info = links } in
    ap made (c.in_ok-fetch_info.ensures ∙ ap (map (λ g. fetches_at c.args.at (ranges_shown g))) c.deref.ensures.value ∙ shown_twice (fetches_at c.args.at) p.merged.items)
    ∙ ap (λ (q : PlanModel). first_of c.args.at q) c.plan.view_is
