use Rattle.std.proofs.Common.{◌≡◌, ◌++◌, drop, map}
use Rattle.xet_plan.specs.Merging.{merge_from, merged, group_from, grouped, ranges_shown}
use Rattle.xet_plan.proofs.runs.merged_by_hash.Given as goal

abbrev pub invariant-loop-k : goal.invariant-loop-k
invariant-loop-k l = map ranges_shown l.groups.items ++ group_from l.current.hash l.ranges.items (merge_from l.current (drop l.k l.rest)) ≡ grouped (merged l.sorted)
