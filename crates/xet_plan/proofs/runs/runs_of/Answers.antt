use Rattle.std.proofs.Common.{◌≡◌, ◌∙◌, map, sym, ap, subst}
use Rattle.std.specs.List.{AllByRecursion}
use Rattle.xet_plan.specs.Runs.{IsMerged}
use Rattle.xet_plan.specs.Merging.{CutsHave, merged, grouped, ranges_shown, group_of, RangesAt}
use Rattle.xet_plan.proofs.CutRuns.{runs_ok, runs_at}
use Rattle.xet_plan.proofs.runs.runs_of.Goals as goal

pub returns-clause-runs : goal.returns-clause-runs
returns-clause-runs c =
    let e : map ranges_shown c.in_ok-groups.groups.items ≡ grouped (merged c.in_order-sorted.result.items) = c.in_ok-groups.ensures ∙ ap (λ cs. grouped (merged cs)) c.deref.ensures.value in
    let m : IsMerged (CutsHave c.args.cuts.items) (map group_of (grouped (merged c.in_order-sorted.result.items))) = runs_ok c.args.cuts.items c.in_order-sorted.result.items c.in_order-sorted.ensures.permutation c.in_order-sorted.ensures.order c.requires in
    subst (IsMerged (CutsHave c.args.cuts.items)) (sym (ap (map group_of) e)) m

pub returns-clause-bytes : goal.returns-clause-bytes
returns-clause-bytes c = λ f a.
    let e : map ranges_shown c.in_ok-groups.groups.items ≡ grouped (merged c.in_order-sorted.result.items) = c.in_ok-groups.ensures ∙ ap (λ cs. grouped (merged cs)) c.deref.ensures.value in
    subst (AllByRecursion (RangesAt f)) (sym e) (runs_at f c.args.cuts.items c.in_order-sorted.result.items c.in_order-sorted.ensures.permutation a)
