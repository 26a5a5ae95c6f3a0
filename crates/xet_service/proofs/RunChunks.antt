-- The chunks of runs: those of the links, and those of the merged groups, each once.
use Rattle.std.proofs.Common.{◌≡◌, ◌∙◌, ℕ, ◌<◌, ◌≤◌, List, [], ◌∷◌, ◌++◌, length, map, sym, arith, ◌⊎◌, inl, inr}
use Rattle.std.specs.List.{AllByRecursion, flat_map}
use Rattle.xet_plan.specs.declared.runs.MergedRange.{MergedRange}
use Rattle.xet_plan.specs.Runs.{Covers, InGroups, Separated}
use Rattle.xet_plan.specs.Merging.{Ranges, group_of, chunks_part}
use Rattle.xet_plan.proofs.Order.{before-same}
use Rattle.xet_store.specs.Responses.{descriptor_of}
use Rattle.xet_service.proofs.PlanRuns.{Run, run, group_runs, Linked, link_runs, all_runs, link_of, Before, InOrder, order_right}
use Rattle.xet_service.specs.Headline.{RangesHave, LinksHave, EachOnce}

-- chunk k of the xorb is one of the run's
abbrev pub RunHas : Run → List ℕ → ℕ → Type 0
RunHas r h k = (r.hash ≡ h) × (r.range.chunk_range.start ≤ k) × (k < r.range.chunk_range.end)

abbrev pub RunsHave : List Run → List ℕ → ℕ → Type 0
RunsHave [] h k = ⊥
RunsHave (r ∷ rs) h k = RunHas r h k ⊎ RunsHave rs h k

-- ---- lists of runs

have_left : (xs ys : List Run) (h : List ℕ) (k : ℕ) → RunsHave xs h k → RunsHave (xs ++ ys) h k
have_left [] ys h k p = absurd p
have_left (x ∷ xs) ys h k (inl p) = inl p
have_left (x ∷ xs) ys h k (inr p) = inr (have_left xs ys h k p)

have_right : (xs ys : List Run) (h : List ℕ) (k : ℕ) → RunsHave ys h k → RunsHave (xs ++ ys) h k
have_right [] ys h k p = p
have_right (x ∷ xs) ys h k p = inr (have_right xs ys h k p)

have_cases : (xs ys : List Run) (h : List ℕ) (k : ℕ) → RunsHave (xs ++ ys) h k → RunsHave xs h k ⊎ RunsHave ys h k
have_cases [] ys h k p = inr p
have_cases (x ∷ xs) ys h k (inl p) = inl (inl p)
have_cases (x ∷ xs) ys h k (inr p) = elim (have_cases xs ys h k p) as (λ _. RunsHave (x ∷ xs) h k ⊎ RunsHave ys h k) [ inl q ↦ inl (inr q) | inr q ↦ inr q ]

-- ---- links

link_has : (g : List ℕ) (rs : List MergedRange) (h : List ℕ) (k : ℕ) → g ≡ h → RangesHave (map descriptor_of rs) k → RunsHave (map (run g) rs) h k
link_has g [] h k e p = p
link_has g (r ∷ rs) h k e (inl p) = inl (e, p.0, p.1)
link_has g (r ∷ rs) h k e (inr p) = inr (link_has g rs h k e p)

link_had : (g : List ℕ) (rs : List MergedRange) (h : List ℕ) (k : ℕ) → RunsHave (map (run g) rs) h k → (g ≡ h) × RangesHave (map descriptor_of rs) k
link_had g [] h k p = absurd p
link_had g (r ∷ rs) h k (inl p) = (p.0, inl (p.1, p.2))
link_had g (r ∷ rs) h k (inr p) = let q : (g ≡ h) × RangesHave (map descriptor_of rs) k = link_had g rs h k p in (q.0, inr q.1)

pub links_runs : (ls : List Linked) (h : List ℕ) (k : ℕ) → LinksHave (map link_of ls) h k → RunsHave (all_runs ls) h k
links_runs [] h k p = p
links_runs (l ∷ ls) h k (inl p) = have_left (link_runs l) (all_runs ls) h k (link_has l.hash l.runs h k p.0 p.1)
links_runs (l ∷ ls) h k (inr p) = have_right (link_runs l) (all_runs ls) h k (links_runs ls h k p)

pub runs_links : (ls : List Linked) (h : List ℕ) (k : ℕ) → RunsHave (all_runs ls) h k → LinksHave (map link_of ls) h k
runs_links [] h k p = p
runs_links (l ∷ ls) h k p = elim (have_cases (link_runs l) (all_runs ls) h k p) as (λ _. LinksHave (map link_of (l ∷ ls)) h k) [
  | inl q ↦ inl (link_had l.hash l.runs h k q)
  | inr q ↦ inr (runs_links ls h k q)
]

-- ---- groups

covers_runs : (g : List ℕ) (rs : List MergedRange) (h : List ℕ) (k : ℕ) → g ≡ h → Covers (map chunks_part rs) k → RunsHave (map (run g) rs) h k
covers_runs g [] h k e p = p
covers_runs g (r ∷ rs) h k e (inl p) = inl (e, p.0, p.1)
covers_runs g (r ∷ rs) h k e (inr p) = inr (covers_runs g rs h k e p)

runs_cover : (g : List ℕ) (rs : List MergedRange) (h : List ℕ) (k : ℕ) → RunsHave (map (run g) rs) h k → (g ≡ h) × Covers (map chunks_part rs) k
runs_cover g [] h k p = absurd p
runs_cover g (r ∷ rs) h k (inl p) = (p.0, inl (p.1, p.2))
runs_cover g (r ∷ rs) h k (inr p) = let q : (g ≡ h) × Covers (map chunks_part rs) k = runs_cover g rs h k p in (q.0, inr q.1)

pub groups_runs : (gs : List Ranges) (h : List ℕ) (k : ℕ) → InGroups (map group_of gs) h k → RunsHave (flat_map group_runs gs) h k
groups_runs [] h k p = p
groups_runs (g ∷ gs) h k (inl p) = have_left (group_runs g) (flat_map group_runs gs) h k (covers_runs g.0 g.1 h k p.0 p.1)
groups_runs (g ∷ gs) h k (inr p) = have_right (group_runs g) (flat_map group_runs gs) h k (groups_runs gs h k p)

pub runs_groups : (gs : List Ranges) (h : List ℕ) (k : ℕ) → RunsHave (flat_map group_runs gs) h k → InGroups (map group_of gs) h k
runs_groups [] h k p = p
runs_groups (g ∷ gs) h k p = elim (have_cases (group_runs g) (flat_map group_runs gs) h k p) as (λ _. InGroups (map group_of (g ∷ gs)) h k) [
  | inl q ↦ inl (runs_cover g.0 g.1 h k q)
  | inr q ↦ inr (runs_groups gs h k q)
]

-- ---- each once

-- runs that come after another begin past its end, under its hash
pub later_past : (r : Run) (rs : List Run) (h : List ℕ) (k : ℕ) → AllByRecursion (Before (r)) (rs) → r.hash ≡ h → RunsHave rs h k → r.range.chunk_range.end < k
later_past r [] h k b e p = absurd p
later_past r (s ∷ rs) h k b e (inl p) = elim b.0 as (λ _. r.range.chunk_range.end < k) [
  | inl q ↦ absurd (before-same r.hash s.hash q (e ∙ sym p.0))
  | inr q ↦ omega (arith, q.1, p.1)
]
later_past r (s ∷ rs) h k b e (inr p) = later_past r rs h k b.1 e p

-- runs in order have no chunk in common with those behind them
apart_runs : (xs ys : List Run) → InOrder (xs ++ ys) → (h : List ℕ) (k : ℕ) → RunsHave xs h k → RunsHave ys h k → ⊥
apart_runs [] ys o h k p q = p
apart_runs (x ∷ xs) ys o h k (inl p) q = let past : x.range.chunk_range.end < k = later_past x (xs ++ ys) h k o.0 p.0 (have_right xs ys h k q) in absurd (omega (arith, past, p.2))
apart_runs (x ∷ xs) ys o h k (inr p) q = apart_runs xs ys o.1 h k p q

pub runs_once : (ls : List Linked) → InOrder (all_runs ls) → EachOnce (map link_of ls)
runs_once [] o = tt
runs_once (l ∷ ls) o = (
  λ h k p q. apart_runs (link_runs l) (all_runs ls) o h k (link_has l.hash l.runs h k p.0 p.1) (links_runs ls h k q),
  runs_once ls (order_right (link_runs l) (all_runs ls) o),
)

-- ---- no run is empty

abbrev pub IsNonEmpty : Run → Type 0
IsNonEmpty r = r.range.chunk_range.start < r.range.chunk_range.end

nonempty_append : (xs ys : List Run) → AllByRecursion IsNonEmpty xs → AllByRecursion IsNonEmpty ys → AllByRecursion IsNonEmpty (xs ++ ys)
nonempty_append [] ys a b = b
nonempty_append (x ∷ xs) ys a b = (a.0, nonempty_append xs ys a.1 b)

nonempty_group : (g : List ℕ) (rs : List MergedRange) → Separated (map chunks_part rs) → AllByRecursion IsNonEmpty (map (run g) rs)
nonempty_group g [] s = tt
nonempty_group g (r ∷ rs) s = (s.0, nonempty_group g rs s.2)

pub runs_nonempty : (gs : List Ranges) → AllByRecursion (λ g. (0 < length g.ranges) × Separated g.ranges) (map group_of gs) → AllByRecursion IsNonEmpty (flat_map group_runs gs)
runs_nonempty [] s = tt
runs_nonempty (g ∷ gs) s = nonempty_append (group_runs g) (flat_map group_runs gs) (nonempty_group g.0 g.1 s.0.1) (runs_nonempty gs s.1)
