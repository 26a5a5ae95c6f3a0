-- Chunks that runs in order hold, one and all, lie in one of them.
use Rattle.std.proofs.Common.{◌≡◌, ◌∙◌, ℕ, suc, ◌<◌, ◌≤◌, max, true, false, Bool, cond, List, [], ◌∷◌, ◌++◌, map, Some, refl, sym, arith, ◌⊎◌, inl, inr}
use Rattle.std.specs.Prelude.{is_some}
use Rattle.std.specs.List.{AllByRecursion}
use Rattle.std.specs.Cmp.Lexicographic.{bytes_decides}
use Rattle.std.proofs.lemmas.Bool.{cases_lt, le-leb}
use Rattle.xet_types.specs.Names.{same_hash}
use Rattle.xet_types.specs.declared.record.XorbReconstructionTerm.{XorbReconstructionTerm}
use Rattle.xet_plan.specs.declared.runs.MergedRange.{MergedRange}
use Rattle.xet_plan.proofs.Order.{before-same}
use Rattle.xet_store.specs.Responses.{descriptor_of}
use Rattle.xet_service.specs.declared.reader.held.LinkRange.{LinkRange}
use Rattle.xet_service.specs.ReadingPlans.{are_apart, all_apart, link_range, ranges_of, all_ranges, range_holds, range_of}
use Rattle.xet_service.proofs.PlanRuns.{Run, run, Linked, link_runs, all_runs, fresh_of, Before, InOrder, order_left, order_right, all_left, all_right}
use Rattle.xet_service.proofs.RunChunks.{RunsHave, IsNonEmpty, later_past}

-- the run has all chunks from a up to b
abbrev pub HasAll : Run → List ℕ → ℕ → ℕ → Type 0
HasAll r h a b = (r.hash ≡ h) × (r.range.chunk_range.start ≤ a) × (b ≤ r.range.chunk_range.end)

abbrev pub OneHasAll : List Run → List ℕ → ℕ → ℕ → Type 0
OneHasAll [] h a b = ⊥
OneHasAll (r ∷ rs) h a b = HasAll r h a b ⊎ OneHasAll rs h a b

pub one_has_all : (rs : List Run) (h : List ℕ) (a b : ℕ) → InOrder rs → a < b → ((k : ℕ) → a ≤ k → k < b → RunsHave rs h k) → OneHasAll rs h a b
one_has_all [] h a b o l all = all a (omega arith) l
one_has_all (r ∷ rs) h a b o l all = elim (all a (omega arith) l) as (λ _. OneHasAll (r ∷ rs) h a b) [
  | inl p ↦
      (elim (cases_lt r.range.chunk_range.end b) as (λ _. OneHasAll (r ∷ rs) h a b) [
        | inl q ↦
            (elim (all r.range.chunk_range.end (omega (arith, p.2)) q) as (λ _. OneHasAll (r ∷ rs) h a b) [
              | inl u ↦ absurd (omega (arith, u.2))
              | inr u ↦ (let past : r.range.chunk_range.end < r.range.chunk_range.end = later_past r rs h r.range.chunk_range.end o.0 p.0 u in absurd (omega (arith, past)))
            ])
        | inr q ↦ inl (p.0, p.1, q)
      ])
  | inr p ↦
      inr (one_has_all rs h a b o.1 l (λ k low high. elim (all k low high) as (λ _. RunsHave rs h k) [
        | inl u ↦ (let past : r.range.chunk_range.end < a = later_past r rs h a o.0 u.0 p in absurd (omega (arith, past, u.2, low)))
        | inr u ↦ u
      ]))
]

-- ---- the links of runs

-- a run behind another of one xorb begins past it
lows : (h : List ℕ) (r : MergedRange) (rs : List MergedRange) → AllByRecursion (Before (run h r)) (map (run h) rs) → r.chunk_range.start < r.chunk_range.end
    → AllByRecursion (λ (s : Run). max r.chunk_range.start r.chunk_range.end ≤ s.range.chunk_range.start) (map (run h) rs)
lows h r [] b some = tt
lows h r (s ∷ rs) b some = (
  elim b.0 as (λ _. max r.chunk_range.start r.chunk_range.end ≤ s.chunk_range.start) [
    | inl q ↦ absurd (before-same h h q refl)
    | inr q ↦ omega (arith, q.1, some)
  ],
  lows h r rs b.1 some,
)

link_apart : (h : List ℕ) (from : ℕ) (rs : List MergedRange) → InOrder (map (run h) rs) → AllByRecursion IsNonEmpty (map (run h) rs) → AllByRecursion (λ (s : Run). from ≤ s.range.chunk_range.start) (map (run h) rs) → are_apart from (map descriptor_of rs) ≡ true
link_apart h from [] o some low = refl
link_apart h from (r ∷ rs) o some low = rw (le-leb from r.chunk_range.start low.0, link_apart h (max r.chunk_range.start r.chunk_range.end) rs o.1 some.1 (lows h r rs o.0 some.0)) refl

from_none : (rs : List Run) → AllByRecursion (λ (s : Run). 0 ≤ s.range.chunk_range.start) rs
from_none [] = tt
from_none (r ∷ rs) = (omega arith, from_none rs)

pub apart : (ls : List Linked) → InOrder (all_runs ls) → AllByRecursion IsNonEmpty (all_runs ls) → all_apart (map fresh_of ls) ≡ true
apart [] o some = refl
apart (l ∷ ls) o some =
    let here = link_apart l.hash 0 l.runs (order_left (link_runs l) (all_runs ls) o) (all_left IsNonEmpty (link_runs l) (all_runs ls) some) (from_none (link_runs l)) in
    rw (here, apart ls (order_right (link_runs l) (all_runs ls) o) (all_right IsNonEmpty (link_runs l) (all_runs ls) some)) refl

-- the range of a run of a link, both by number
abbrev pub range_at : List ℕ → ℕ → ℕ → MergedRange → LinkRange
range_at h n i r = link_range h n i (descriptor_of r)

-- a range of such a run holds the term
run_holds : (h : List ℕ) (n i : ℕ) (r : MergedRange) (t : XorbReconstructionTerm) → t.range.start ≤ t.range.end → HasAll (run h r) t.hash t.range.start t.range.end → range_holds t (range_at h n i r) ≡ true
run_holds h n i r t l p =
    let same : same_hash h t.hash ≡ true = (bytes_decides h t.hash).1 p.0 in
    rw (same, le-leb r.chunk_range.start t.range.start p.1, le-leb t.range.start t.range.end l, le-leb t.range.end r.chunk_range.end p.2) refl

one_cases : (xs ys : List Run) (h : List ℕ) (a b : ℕ) → OneHasAll (xs ++ ys) h a b → OneHasAll xs h a b ⊎ OneHasAll ys h a b
one_cases [] ys h a b p = inr p
one_cases (x ∷ xs) ys h a b (inl p) = inl (inl p)
one_cases (x ∷ xs) ys h a b (inr p) = elim (one_cases xs ys h a b p) as (λ _. OneHasAll (x ∷ xs) h a b ⊎ OneHasAll ys h a b) [ inl q ↦ inl (inr q) | inr q ↦ inr q ]

-- a term that some ranges hold is found in more
left_found : (t : XorbReconstructionTerm) (xs ys : List LinkRange) → is_some (range_of xs t) ≡ true → is_some (range_of (xs ++ ys) t) ≡ true
left_found t [] ys e = absurd cc
left_found t (x ∷ xs) ys e = of (range_holds t x) e (λ g. left_found t xs ys g)
  where
    of : (b : Bool) → is_some (cond b (Some x) (range_of xs t)) ≡ true → (is_some (range_of xs t) ≡ true → is_some (range_of (xs ++ ys) t) ≡ true) → is_some (cond b (Some x) (range_of (xs ++ ys) t)) ≡ true
    of true g more = refl
    of false g more = more g

right_found : (t : XorbReconstructionTerm) (xs ys : List LinkRange) → is_some (range_of ys t) ≡ true → is_some (range_of (xs ++ ys) t) ≡ true
right_found t [] ys e = e
right_found t (x ∷ xs) ys e = of (range_holds t x) (right_found t xs ys e)
  where
    of : (b : Bool) → is_some (range_of (xs ++ ys) t) ≡ true → is_some (cond b (Some x) (range_of (xs ++ ys) t)) ≡ true
    of true more = refl
    of false more = more

link_found : (h : List ℕ) (n i : ℕ) (rs : List MergedRange) (t : XorbReconstructionTerm) → t.range.start ≤ t.range.end → OneHasAll (map (run h) rs) t.hash t.range.start t.range.end → is_some (range_of (ranges_of h n i (map descriptor_of rs)) t) ≡ true
link_found h n i [] t l p = absurd p
link_found h n i (r ∷ rs) t l p = of (range_holds t (range_at h n i r)) refl (λ q. link_found h n (suc i) rs t l q) p
  where
    of : (b : Bool) → range_holds t (range_at h n i r) ≡ b → (OneHasAll (map (run h) rs) t.hash t.range.start t.range.end → is_some (range_of (ranges_of h n (suc i) (map descriptor_of rs)) t) ≡ true) → OneHasAll (map (run h) (r ∷ rs)) t.hash t.range.start t.range.end
        → is_some (cond b (Some (range_at h n i r)) (range_of (ranges_of h n (suc i) (map descriptor_of rs)) t)) ≡ true
    of true e more q = refl
    of false e more (inl q) = let f : true ≡ false = sym (run_holds h n i r t l q) ∙ e in absurd cc
    of false e more (inr q) = more q

-- the first range that holds the term is found, where there is one
pub found : (n : ℕ) (ls : List Linked) (t : XorbReconstructionTerm) → t.range.start ≤ t.range.end → OneHasAll (all_runs ls) t.hash t.range.start t.range.end → is_some (range_of (all_ranges n (map fresh_of ls)) t) ≡ true
found n [] t l p = absurd p
found n (x ∷ ls) t l p = elim (one_cases (link_runs x) (all_runs ls) t.hash t.range.start t.range.end p) as (λ _. is_some (range_of (all_ranges n (map fresh_of (x ∷ ls))) t) ≡ true) [
  | inl q ↦ left_found t (ranges_of x.hash n 0 (map descriptor_of x.runs)) (all_ranges (suc n) (map fresh_of ls)) (link_found x.hash n 0 x.runs t l q)
  | inr q ↦ right_found t (ranges_of x.hash n 0 (map descriptor_of x.runs)) (all_ranges (suc n) (map fresh_of ls)) (found (suc n) ls t l q)
]
