-- A list cut into groups.
use Rattle.std.specs.Prelude.{◌≡◌, ℕ, ◌<◌, ◌≤◌, nat_lt, List, [], ◌∷◌, ◌++◌, length, if◌then◌else◌}
use Rattle.std.specs.Global.{Vec}
use Rattle.xet_plan.specs.declared.runs.MergedRange.{MergedRange}

abbrev pub items_of : Vec MergedRange → List MergedRange
items_of v = v.items

-- each has max, but the last, which has at least 1 and at most max
abbrev pub Sizes : ℕ → List (List MergedRange) → Type 0
Sizes max [] = Unit {0}
Sizes max (g ∷ []) = (0 < length g) × (length g ≤ max)
Sizes max (g ∷ h ∷ gs) = (length g ≡ max) × Sizes max (h ∷ gs)

-- the groups of ranges that come behind those of a group: a range goes into the group while this has fewer than max, and else begins
-- the next one
abbrev pub groups_from : ℕ → List MergedRange → List MergedRange → List (List MergedRange)
groups_from max g [] = g ∷ []
groups_from max g (r ∷ rs) = if nat_lt (length g) max then groups_from max (g ++ r ∷ []) rs else g ∷ groups_from max (r ∷ []) rs

-- the ranges in consecutive groups of max, the last maybe smaller
abbrev pub in_groups : ℕ → List MergedRange → List (List MergedRange)
in_groups max [] = []
in_groups max (r ∷ rs) = groups_from max (r ∷ []) rs
