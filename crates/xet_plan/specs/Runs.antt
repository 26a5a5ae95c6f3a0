-- Maximal intervals of a set of numbers.
use Rattle.std.specs.Prelude.{◌≡◌, ℕ, ◌<◌, ◌≤◌, List, [], ◌∷◌, ◌⊎◌, ◌↔◌, length}
use Rattle.std.specs.List.{AllByRecursion}
use Rattle.std.specs.declared.cmp.Ordering.TheVariants.{Less}
use Rattle.xet_types.specs.Names.{hash_cmp}
use Rattle.xet_plan.specs.Places.{Interval}

-- k is in one of the intervals
abbrev pub Covers : List Interval → ℕ → Type 0
Covers [] k = ⊥
Covers (r ∷ rs) k = ((r.start ≤ k) × (k < r.end)) ⊎ Covers rs k

-- intervals that aren't empty, and rise without overlapping or touching
abbrev pub Separated : List Interval → Type 0
Separated [] = Unit {0}
Separated (r ∷ rs) = (r.start < r.end) × AllByRecursion (λ q. r.end < q.start) rs × Separated rs

-- the maximal intervals of a set of numbers, rising
pub record IsRuns (P : ℕ → Type 0) (runs : List Interval) : Type 0 where
  pub separated : Separated runs
  pub covers : (k : ℕ) → Covers runs k ↔ P k

-- a hash stands before another in the order of hashes
abbrev pub Before : List ℕ → List ℕ → Type 0
Before h g = hash_cmp h g ≡ Less

-- intervals of chunk numbers under the hash of their xorb
pub record Group : Type 0 where
  pub hash : List ℕ
  pub ranges : List Interval

-- groups rise by hash
abbrev pub Rising : List Group → Type 0
Rising [] = Unit {0}
Rising (g ∷ gs) = AllByRecursion (λ q. Before g.hash q.hash) gs × Rising gs

-- chunk k of the xorb h is in one of the intervals
abbrev pub InGroups : List Group → List ℕ → ℕ → Type 0
InGroups [] h k = ⊥
InGroups (g ∷ gs) h k = ((g.hash ≡ h) × Covers g.ranges k) ⊎ InGroups gs h k

-- the runs of each xorb's numbers in a set of pairs of a hash and a number, in order of hash
pub record IsMerged (P : List ℕ → ℕ → Type 0) (groups : List Group) : Type 0 where
  pub rising : Rising groups
  pub runs : AllByRecursion (λ g. (0 < length g.ranges) × Separated g.ranges) groups
  pub covers : (h : List ℕ) (k : ℕ) → InGroups groups h k ↔ P h k
