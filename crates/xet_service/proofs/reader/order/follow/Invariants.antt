use Rattle.std.proofs.Common.{◌≡◌, drop}
use Rattle.xet_service.specs.ReadingOrder.{in_order_after}
use Rattle.xet_service.proofs.reader.order.follow.Given as goal

abbrev pub invariant-loop-range : goal.invariant-loop-range
invariant-loop-range l = in_order_after l.last (drop l.range-index l.others) ≡ in_order_after l.fn.first l.others
