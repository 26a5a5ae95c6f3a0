-- The runs of merged groups are in order.
use Rattle.std.proofs.Common.{ℕ, ◌<◌, List, [], ◌∷◌, ◌++◌, length, map, refl, inl, inr}
use Rattle.std.specs.List.{AllByRecursion, flat_map}
use Rattle.xet_plan.specs.declared.runs.MergedRange.{MergedRange}
use Rattle.xet_plan.specs.Runs.{Separated, Rising, Before as HashBefore}
use Rattle.xet_plan.specs.Merging.{Ranges, group_of, chunks_part}
use Rattle.xet_service.proofs.PlanRuns.{Run, run, group_runs, Before, InOrder}

before_append : (a : Run) (xs ys : List Run) → AllByRecursion (Before a) (xs) → AllByRecursion (Before a) (ys) → AllByRecursion (Before a) ((xs ++ ys))
before_append a [] ys p q = q
before_append a (x ∷ xs) ys p q = (p.0, before_append a xs ys p.1 q)

before_group : (a : Run) (h : List ℕ) (rs : List MergedRange) → HashBefore a.hash h → AllByRecursion (Before a) ((map (run h) rs))
before_group a h [] p = tt
before_group a h (r ∷ rs) p = (inl p, before_group a h rs p)

before_groups : (a : Run) (gs : List Ranges) → AllByRecursion (λ q. HashBefore a.hash q.hash) (map group_of gs) → AllByRecursion (Before a) ((flat_map group_runs gs))
before_groups a [] p = tt
before_groups a (g ∷ gs) p = before_append a (group_runs g) (flat_map group_runs gs) (before_group a g.0 g.1 p.0) (before_groups a gs p.1)

-- ranges of one xorb
before_ranges : (h : List ℕ) (r : MergedRange) (rs : List MergedRange) → AllByRecursion (λ q. r.chunk_range.end < q.start) (map chunks_part rs) → AllByRecursion (Before (run h r)) ((map (run h) rs))
before_ranges h r [] p = tt
before_ranges h r (s ∷ rs) p = (inr (refl, p.0), before_ranges h r rs p.1)

group_then : (h : List ℕ) (rs : List MergedRange) (rest : List Run) → Separated (map chunks_part rs) → ((r : MergedRange) → AllByRecursion (Before (run h r)) (rest)) → InOrder (rest)
    → InOrder ((map (run h) rs ++ rest))
group_then h [] rest s b o = o
group_then h (r ∷ rs) rest s b o = (before_append (run h r) (map (run h) rs) rest (before_ranges h r rs s.1) (b r), group_then h rs rest s.2 b o)

-- groups that rise by hash, with separated ranges
pub groups_in_order : (gs : List Ranges) → Rising (map group_of gs) → AllByRecursion (λ g. (0 < length g.ranges) × Separated g.ranges) (map group_of gs) → InOrder ((flat_map group_runs gs))
groups_in_order [] r s = tt
groups_in_order (g ∷ gs) r s = group_then g.0 g.1 (flat_map group_runs gs) s.0.1 (λ x. before_groups (run g.0 x) gs r.0) (groups_in_order gs r.1 s.1)
