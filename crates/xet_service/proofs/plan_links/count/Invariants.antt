use Rattle.std.proofs.Common.{◌≡◌, ◌≤◌, ◌+◌, ◌-◌, ◌^◌, length, min}
use Rattle.xet_service.proofs.plan_links.count.Given as goal

abbrev pub invariant-loop-count : goal.invariant-loop-count
invariant-loop-count l = record {
  counted : min (l.count + length l.walk) (2 ^ 64 - 1) ≡ min (length l.fn.walk) (2 ^ 64 - 1);
  fits : l.count ≤ 2 ^ 64 - 1;
}

abbrev pub decreases-loop-count : goal.decreases-loop-count
decreases-loop-count l = length l.walk
