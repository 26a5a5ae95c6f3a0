-- No fewer intervals cover what separated ones cover.
use Rattle.std.proofs.Common.{ℕ, ◌+◌, ◌<◌, ◌≤◌, nat_lt, List, [], ◌∷◌, length, filter, sym, subst, arith, inl, inr, Bool}
use Rattle.std.specs.List.{AllByRecursion}
use Rattle.std.proofs.lemmas.Bool.{cases_lt, lt-ltb, le-ltb}
use Rattle.xet_plan.specs.Places.{Interval}
use Rattle.xet_plan.specs.Runs.{Covers, Separated}
use Rattle.xet_plan.proofs.Lay.{filter-yes, filter-no}

-- it begins past e
abbrev pub after : ℕ → Interval → Bool
after e i = nat_lt e i.start

pub covers_above : (e : ℕ) (rs : List Interval) (k : ℕ) → AllByRecursion (λ q. e < q.start) rs → Covers rs k → e < k
covers_above e [] k a p = absurd p
covers_above e (r ∷ rs) k a (inl p) = omega (arith, a.0, p.0)
covers_above e (r ∷ rs) k a (inr p) = covers_above e rs k a.1 p

covers_after : (e : ℕ) (is : List Interval) (k : ℕ) → Covers (filter (after e) is) k → Covers is k × (e < k)
covers_after e [] k p = absurd p
covers_after e (i ∷ is) k p = elim (cases_lt e i.start) as (λ _. Covers (i ∷ is) k × (e < k)) [
  | inl l ↦ one l (λ q. covers_after e is k q) (subst (λ cs. Covers cs k) (filter-yes (after e) i is (lt-ltb e i.start l)) p)
  | inr l ↦
      (let q : Covers is k × (e < k) = covers_after e is k (subst (λ cs. Covers cs k) (filter-no (after e) i is (le-ltb e i.start l)) p) in
      (inr q.0, q.1))
]
  where
    one : e < i.start → (Covers (filter (after e) is) k → Covers is k × (e < k)) → Covers (i ∷ filter (after e) is) k → Covers (i ∷ is) k × (e < k)
    one l f (inl q) = (inl q, omega (arith, q.0))
    one l f (inr q) = let r : Covers is k × (e < k) = f q in (inr r.0, r.1)

covers_keep : (e : ℕ) (is : List Interval) (k : ℕ) → e ≤ k → (Covers is e → ⊥) → Covers is k → Covers (filter (after e) is) k
covers_keep e [] k m n p = absurd p
covers_keep e (i ∷ is) k m n (inl p) = elim (cases_lt e i.start) as (λ _. Covers (filter (after e) (i ∷ is)) k) [
  | inl l ↦ subst (λ cs. Covers cs k) (sym (filter-yes (after e) i is (lt-ltb e i.start l))) (inl p)
  | inr l ↦ absurd (n (inl (l, omega (arith, p.1))))
]
covers_keep e (i ∷ is) k m n (inr p) =
    let rest : Covers (filter (after e) is) k = covers_keep e is k m (λ q. n (inr q)) p in
    elim (cases_lt e i.start) as (λ _. Covers (filter (after e) (i ∷ is)) k) [
      | inl l ↦ subst (λ cs. Covers cs k) (sym (filter-yes (after e) i is (lt-ltb e i.start l))) (inr rest)
      | inr l ↦ subst (λ cs. Covers cs k) (sym (filter-no (after e) i is (le-ltb e i.start l))) rest
    ]

length-filter-le : (e : ℕ) (is : List Interval) → length (filter (after e) is) ≤ length is
length-filter-le e [] = omega arith
length-filter-le e (i ∷ is) = elim (cases_lt e i.start) as (λ _. length (filter (after e) (i ∷ is)) ≤ length (i ∷ is)) [
  | inl l ↦ rw (filter-yes (after e) i is (lt-ltb e i.start l)) (omega (arith, length-filter-le e is))
  | inr l ↦ rw (filter-no (after e) i is (le-ltb e i.start l)) (omega (arith, length-filter-le e is))
]

-- one that covers a number up to e is left out
shorter : (e : ℕ) (is : List Interval) (k : ℕ) → k ≤ e → Covers is k → length (filter (after e) is) + 1 ≤ length is
shorter e [] k m p = absurd p
shorter e (i ∷ is) k m (inl p) = rw (filter-no (after e) i is (le-ltb e i.start (omega (arith, p.0)))) (omega (arith, length-filter-le e is))
shorter e (i ∷ is) k m (inr p) =
    let rest : length (filter (after e) is) + 1 ≤ length is = shorter e is k m p in
    elim (cases_lt e i.start) as (λ _. length (filter (after e) (i ∷ is)) + 1 ≤ length (i ∷ is)) [
      | inl l ↦ rw (filter-yes (after e) i is (lt-ltb e i.start l)) (omega arith)
      | inr l ↦ rw (filter-no (after e) i is (le-ltb e i.start l)) (omega arith)
    ]

pub outside : (r : Interval) (rs : List Interval) (k : ℕ) → r.end ≤ k → Covers (r ∷ rs) k → Covers rs k
outside r rs k m (inl p) = absurd (omega (arith, p.1))
outside r rs k m (inr p) = p

pub fewest : (rs is : List Interval) → Separated rs → ((k : ℕ) → Covers is k → Covers rs k) → ((k : ℕ) → Covers rs k → Covers is k) → length rs ≤ length is
fewest [] is s f g = omega arith
fewest (r ∷ rs) is s f g =
    let none : Covers is r.end → ⊥ = λ (p : Covers is r.end). (let q : r.end < r.end = covers_above r.end rs r.end s.1 (outside r rs r.end (omega arith) (f r.end p)) in omega arith) in
    let ih : length rs ≤ length (filter (after r.end) is) = fewest rs (filter (after r.end) is) s.2
    (λ k p. let q : Covers is k × (r.end < k) = covers_after r.end is k p in outside r rs k (omega (arith, q.1)) (f k q.0))
    (λ k p. covers_keep r.end is k (omega (arith, covers_above r.end rs k s.1 p)) none (g k (inr p))) in
    let less : length (filter (after r.end) is) + 1 ≤ length is = shorter r.end is r.start (omega (arith, s.0)) (g r.start (inl (omega arith, s.0))) in
    omega arith
