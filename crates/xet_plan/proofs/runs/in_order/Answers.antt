use Rattle.std.proofs.Common.{◌+◌, get_or, arith}
use Rattle.xet_plan.proofs.Order.{in_order_from_neighbours, from_cmp}
use Rattle.xet_plan.proofs.runs.in_order.Goals as goal

pub returns-clause-order : goal.returns-clause-order
returns-clause-order c = in_order_from_neighbours c.sort_unstable.new.self.items (λ k d l.
    let s = c.sort_unstable.ensures.sorted k d (omega arith) l in
    from_cmp (get_or c.sort_unstable.new.self.items k d) (get_or c.sort_unstable.new.self.items (k + 1) d) _ s)
