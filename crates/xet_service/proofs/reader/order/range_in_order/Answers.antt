use Rattle.std.proofs.Common.{◌≡◌, ◌∙◌, ◌-◌, ap, sym, arith, rules, true}
use Rattle.std.proofs.lemmas.List.Sorted.{IsPartitionPoint-from_clause}
use Rattle.xet_service.specs.declared.reader.held.LinkRange.{LinkRange}
use Rattle.xet_service.specs.ReadingOrder.{begins_by}
use Rattle.xet_service.proofs.RangeOrder.{ordered, nonempty, partitioned, range_past, range_at, range_gap, above_none}
use Rattle.xet_service.proofs.reader.order.range_in_order.Goals as goal

pub returns-then-after-eq0 : goal.returns-then-after-eq0
returns-then-after-eq0 c =
    let rs = c.args.ranges.now in
    let point = IsPartitionPoint-from_clause (λ s. begins_by s c.args.term.now) _ _ c.partition_point-after.ensures.partitioned (partitioned rs c.args.term.now (ordered rs c.requires) (nonempty rs c.requires)) (λ a r q k. search rules) in
    sym (range_past rs c.args.term.now (λ i d lt. point.1 i d (omega (arith, c.if-after-eq0.true)) lt))

pub returns-then-holds : goal.returns-then-holds
returns-then-holds c =
    let some = above_none c.partition_point-after.result c.if-after-eq0.false in
    sym (range_at c.args.ranges.now c.args.term.now (c.partition_point-after.result - 1) c.index-ranges-after.result (ordered c.args.ranges.now c.requires)
    (omega (arith, some, c.partition_point-after.ensures.bound)) c.index-ranges-after.is (sym c.holds.ensures ∙ c.if-holds.true))

pub returns-else-holds : goal.returns-else-holds
returns-else-holds c =
    let rs = c.args.ranges.now in
    let point = IsPartitionPoint-from_clause (λ s. begins_by s c.args.term.now) _ _ c.partition_point-after.ensures.partitioned (partitioned rs c.args.term.now (ordered rs c.requires) (nonempty rs c.requires)) (λ a r q k. search rules) in
    let some = above_none c.partition_point-after.result c.if-after-eq0.false in
    let range = c.index-ranges-after.result in
    let begins : begins_by range c.args.term.now ≡ true = ap (λ (s : LinkRange). begins_by s c.args.term.now) c.index-ranges-after.is ∙ point.0 (c.partition_point-after.result - 1) range (omega arith) (omega (arith, some)) in
    sym (range_gap rs c.args.term.now (c.partition_point-after.result - 1) range (ordered rs c.requires)
    (omega (arith, some, c.partition_point-after.ensures.bound)) c.index-ranges-after.is begins (sym c.holds.ensures ∙ c.if-holds.false)
    (λ i d lo li. point.1 i d (omega (arith, some, lo)) li))
