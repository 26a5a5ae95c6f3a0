use Rattle.std.proofs.Common.{◌≡◌, ◌++◌, drop, filter, not}
use Rattle.xet_types.specs.Names.{same_hash}
use Rattle.xet_plan.proofs.plain.ranges.others.Given as goal

abbrev pub invariant-loop-chunk : goal.invariant-loop-chunk
invariant-loop-chunk l = l.others.items ++ filter (λ c. not (same_hash c.hash l.hash)) (drop l.chunk-index l.chunks) ≡ filter (λ c. not (same_hash c.hash l.hash)) l.chunks
