use Rattle.std.proofs.Common.{◌≡◌, ◌∙◌, ◌+◌, ◌∷◌, ◌++◌, [], drop, map, sym, ap, arith}
use Rattle.std.proofs.lemmas.List.{drop_all, map_push}
use Rattle.xet_plan.specs.Merging.{merge_from, group_from, range_of, ranges, ranges_shown}
use Rattle.xet_plan.proofs.Heads.{next_same, next_other, last_merged, shown_push}
use Rattle.xet_plan.proofs.SoFar.{drop_read}
use Rattle.xet_plan.proofs.runs.merged_by_hash.Goals as goal

pub loop-k-preserved-then-eq : goal.loop-k-preserved-then-eq
loop-k-preserved-then-eq c =
    let xs = c.in-Some.rest.now in
    let i = c.loop-k.k in
    let now = c.loop-k.current in
    let next = c.index-rest-k.result in
    let done = map ranges_shown c.loop-k.groups.items in
    let more : drop i xs ≡ next ∷ drop (i + 1) xs = drop_read xs i next (omega arith) c.index-rest-k.is in
    let step = next_same c.loop-k.ranges.items now next (drop (i + 1) xs) (sym c.joins.ensures ∙ c.if-joins.false) (sym c.eq.ensures ∙ c.if-eq.true) in
    rw (c.in_ok-push.ensures.items, c.range_of.ensures) (ap (λ gs. done ++ gs) (sym step) ∙ (rw more at c.loop-k.invariant))

pub loop-k-preserved : goal.loop-k-preserved
loop-k-preserved c =
    let xs = c.in-Some.rest.now in
    let i = c.loop-k.k in
    let now = c.loop-k.current in
    let next = c.index-rest-k.result in
    let done = map ranges_shown c.loop-k.groups.items in
    let more : drop i xs ≡ next ∷ drop (i + 1) xs = drop_read xs i next (omega arith) c.index-rest-k.is in
    let step = next_other c.loop-k.ranges.items now next (drop (i + 1) xs) (sym c.joins.ensures ∙ c.if-joins.false) (sym c.eq.ensures ∙ c.if-eq.false) in
    let put : c.push.new.self.items ≡ c.loop-k.ranges.items ++ range_of now ∷ [] = rw c.range_of.ensures at c.in_ok-push.ensures.items in
    rw (c.in_ok-push-2.ensures.items, c.in_ok-ranges-2.ensures.items)
    (shown_push c.loop-k.groups.items (now.hash, c.push.new.self) (group_from next.hash [] (merge_from next (drop (i + 1) xs)))
    ∙ (ap (λ rs. done ++ ranges now.hash rs ∷ group_from next.hash [] (merge_from next (drop (i + 1) xs))) put
    ∙ (ap (λ gs. done ++ gs) (sym step) ∙ (rw more at c.loop-k.invariant))))

pub returns : goal.returns
returns c =
    let xs = c.in-Some.rest.now in
    let i = c.loop-k.k in
    let now = c.loop-k.current in
    let done = map ranges_shown c.loop-k.groups.items in
    let none : drop i xs ≡ [] = drop_all i xs (omega arith) in
    let put : c.push-2.new.self.items ≡ c.loop-k.ranges.items ++ range_of now ∷ [] = rw c.range_of-2.ensures at c.in_ok-push-3.ensures.items in
    rw c.in_ok-push-4.ensures.items
    (map_push ranges_shown c.loop-k.groups.items (now.hash, c.push-2.new.self)
    ∙ (ap (λ rs. done ++ ranges now.hash rs ∷ []) put
    ∙ (ap (λ gs. done ++ gs) (sym (last_merged c.loop-k.ranges.items now)) ∙ (rw none at c.loop-k.invariant))))
