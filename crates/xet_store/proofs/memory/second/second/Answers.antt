use Rattle.std.proofs.Common.{◌∙◌, List, map, ℕ, sym, ap, subst}
use Rattle.xet_types.specs.Records.{RangesFetch, SecondPlan}
use Rattle.xet_plan.specs.Plans.{PlanModel}
use Rattle.xet_plan.specs.Runs.{Rising}
use Rattle.xet_plan.specs.Merging.{group_of, ranges_shown}
use Rattle.xet_plan.specs.Answers.{groups_of}
use Rattle.xet_store.specs.Responses.{ranges_fetches, second_at}
use Rattle.xet_store.proofs.Links.{groups, shown_twice}
use Rattle.xet_store.proofs.memory.second.second.Goals as goal

pub links-requires : goal.links-requires
links-requires c = record {
  some = c.requires.some;
  rising = subst Rising (sym (ap groups c.deref.ensures.value ∙ shown_twice group_of c.plan.inside.merged.items)) (subst (λ (p : PlanModel). Rising (groups_of p)) (sym c.plan.view_is) c.requires.rising);
}

pub returns : goal.returns
returns c =
    let p = c.plan.inside in
    let made : List (List ℕ × List RangesFetch) → SecondPlan = λ links. record { offset_into_first_range = p.offset_into_first_range; terms = p.terms.items; xorbs = links } in
    ap made (c.in_ok-xorbs.ensures ∙ ap (map (λ g. ranges_fetches c.args.max c.args.at (ranges_shown g))) c.deref.ensures.value ∙ shown_twice (ranges_fetches c.args.max c.args.at) p.merged.items)
    ∙ ap (λ (q : PlanModel). second_at c.args.max c.args.at q) c.plan.view_is
