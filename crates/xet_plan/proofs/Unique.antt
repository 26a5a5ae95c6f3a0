-- A set has one list of runs.
use Rattle.std.proofs.Common.{◌≡◌, ◌∙◌, ℕ, ◌<◌, ◌≤◌, List, [], ◌∷◌, length, refl, sym, ap, subst, arith, ◌⊎◌, inl, inr}
use Rattle.std.specs.List.{AllByRecursion}
use Rattle.std.proofs.lemmas.Bool.{cases_lt}
use Rattle.xet_plan.specs.Places.{Interval, interval}
use Rattle.xet_plan.specs.Runs.{Covers, Separated, IsRuns, Before, Group, Rising, InGroups, IsMerged}
use Rattle.xet_plan.proofs.Fewest.{covers_above, outside}
use Rattle.xet_plan.proofs.Order.{before-trans, before-itself}

covers_low : (r : Interval) (rs : List Interval) (k : ℕ) → Separated (r ∷ rs) → Covers (r ∷ rs) k → r.start ≤ k
covers_low r rs k s (inl p) = p.0
covers_low r rs k s (inr p) = omega (arith, covers_above r.end rs k s.1 p, s.0)

-- the first interval of a set ends no later than that of another with the same numbers
end_le : (r : Interval) (rs : List Interval) (q : Interval) (qs : List Interval) → Separated (r ∷ rs) → Separated (q ∷ qs) → ((k : ℕ) → Covers (r ∷ rs) k → Covers (q ∷ qs) k) → q.start ≡ r.start → r.end ≤ q.end
end_le r rs q qs s t f e = elim (cases_lt q.end r.end) as (λ _. r.end ≤ q.end) [
  | inr l ↦ l
  | inl l ↦
      (let c : Covers (q ∷ qs) q.end = f q.end (inl (omega (arith, t.0), l)) in
      let x : q.end < q.end = covers_above q.end qs q.end t.1 (outside q qs q.end (omega arith) c) in
      absurd (omega arith))
]

rest_same : (r : Interval) (rs : List Interval) (q : Interval) (qs : List Interval) → Separated (r ∷ rs) → ((k : ℕ) → Covers (r ∷ rs) k → Covers (q ∷ qs) k) → q.end ≡ r.end → (k : ℕ) → Covers rs k → Covers qs k
rest_same r rs q qs s f e k p = let l : r.end < k = covers_above r.end rs k s.1 p in outside q qs k (omega arith) (f k (inr p))

pub same_runs : (rs qs : List Interval) → Separated rs → Separated qs → ((k : ℕ) → Covers rs k → Covers qs k) → ((k : ℕ) → Covers qs k → Covers rs k) → rs ≡ qs
same_runs [] [] s t f g = refl
same_runs [] (q ∷ qs) s t f g = absurd (g q.start (inl (omega arith, t.0)))
same_runs (r ∷ rs) [] s t f g = absurd (f r.start (inl (omega arith, s.0)))
same_runs (r ∷ rs) (q ∷ qs) s t f g =
    let a : q.start ≤ r.start = covers_low q qs r.start t (f r.start (inl (omega arith, s.0))) in
    let b : r.start ≤ q.start = covers_low r rs q.start s (g q.start (inl (omega arith, t.0))) in
    let start : r.start ≡ q.start = omega arith in
    let c : r.end ≤ q.end = end_le r rs q qs s t f (omega arith) in
    let d : q.end ≤ r.end = end_le q qs r rs t s g (omega arith) in
    let end : r.end ≡ q.end = omega arith in
    let first : r ≡ q = ap (λ k. interval k r.end) start ∙ ap (λ k. interval q.start k) end in
    let rest : rs ≡ qs = same_runs rs qs s.2 t.2 (rest_same r rs q qs s f (sym end)) (rest_same q qs r rs t g end) in
    ap (λ x. x ∷ rs) first ∙ ap (λ xs. q ∷ xs) rest

pub runs_unique : (P : ℕ → Type 0) (rs qs : List Interval) → IsRuns P rs → IsRuns P qs → rs ≡ qs
runs_unique P rs qs a b = same_runs rs qs a.separated b.separated (λ k p. (b.covers k).1 ((a.covers k).0 p)) (λ k p. (a.covers k).1 ((b.covers k).0 p))

-- groups are of later hashes
later : (h : List ℕ) (gs : List Group) (x : List ℕ) (k : ℕ) → AllByRecursion (λ q. Before h q.hash) gs → InGroups gs x k → Before h x
later h [] x k a p = absurd p
later h (g ∷ gs) x k a (inl p) = subst (λ y. Before h y) p.0 a.0
later h (g ∷ gs) x k a (inr p) = later h gs x k a.1 p

pub first_of : (rs : List Interval) → 0 < length rs → Separated rs → (k : ℕ) × Covers rs k
first_of [] l s = absurd (omega arith)
first_of (r ∷ rs) l s = (r.start, inl (omega arith, s.0))

at_least : (f : Group) (fs : List Group) (x : List ℕ) (k : ℕ) → Rising (f ∷ fs) → InGroups (f ∷ fs) x k → (f.hash ≡ x) ⊎ Before f.hash x
at_least f fs x k r (inl p) = inl p.0
at_least f fs x k r (inr p) = inr (later f.hash fs x k r.0 p)

same_first : (a b : List ℕ) → (a ≡ b) ⊎ Before a b → (b ≡ a) ⊎ Before b a → a ≡ b
same_first a b (inl e) q = e
same_first a b (inr p) (inl e) = sym e
same_first a b (inr p) (inr q) = absurd (before-itself a (before-trans a b a p q))

in_first : (g : Group) (gs : List Group) (k : ℕ) → Rising (g ∷ gs) → InGroups (g ∷ gs) g.hash k → Covers g.ranges k
in_first g gs k r (inl p) = p.1
in_first g gs k r (inr p) = absurd (before-itself g.hash (later g.hash gs g.hash k r.0 p))

in_rest : (g : Group) (gs : List Group) (x : List ℕ) (k : ℕ) → Before g.hash x → InGroups (g ∷ gs) x k → InGroups gs x k
in_rest g gs x k b (inl p) = absurd (before-itself x (subst (λ y. Before y x) p.0 b))
in_rest g gs x k b (inr p) = p

pub same_groups : (gs fs : List Group) → Rising gs → Rising fs → AllByRecursion (λ g. (0 < length g.ranges) × Separated g.ranges) gs → AllByRecursion (λ g. (0 < length g.ranges) × Separated g.ranges) fs
    → ((x : List ℕ) (k : ℕ) → InGroups gs x k → InGroups fs x k) → ((x : List ℕ) (k : ℕ) → InGroups fs x k → InGroups gs x k) → gs ≡ fs
same_groups [] [] r t a b u v = refl
same_groups [] (f ∷ fs) r t a b u v = let k : (k : ℕ) × Covers f.ranges k = first_of f.ranges b.0.0 b.0.1 in absurd (v f.hash k.0 (inl (refl, k.1)))
same_groups (g ∷ gs) [] r t a b u v = let k : (k : ℕ) × Covers g.ranges k = first_of g.ranges a.0.0 a.0.1 in absurd (u g.hash k.0 (inl (refl, k.1)))
same_groups (g ∷ gs) (f ∷ fs) r t a b u v =
    let i : (k : ℕ) × Covers g.ranges k = first_of g.ranges a.0.0 a.0.1 in
    let j : (k : ℕ) × Covers f.ranges k = first_of f.ranges b.0.0 b.0.1 in
    let hash : g.hash ≡ f.hash = same_first g.hash f.hash (at_least g gs f.hash j.0 r (v f.hash j.0 (inl (refl, j.1)))) (at_least f fs g.hash i.0 t (u g.hash i.0 (inl (refl, i.1)))) in
    let ranges : g.ranges ≡ f.ranges = same_runs g.ranges f.ranges a.0.1 b.0.1
    (λ k p. in_first f fs k t (subst (λ x. InGroups (f ∷ fs) x k) hash (u g.hash k (inl (refl, p)))))
    (λ k p. in_first g gs k r (subst (λ x. InGroups (g ∷ gs) x k) (sym hash) (v f.hash k (inl (refl, p))))) in
    let rest : gs ≡ fs = same_groups gs fs r.1 t.1 a.1 b.1
    (λ x k p. in_rest f fs x k (subst (λ y. Before y x) hash (later g.hash gs x k r.0 p)) (u x k (inr p)))
    (λ x k p. in_rest g gs x k (subst (λ y. Before y x) (sym hash) (later f.hash fs x k t.0 p)) (v x k (inr p))) in
    let mk : List ℕ → List Interval → Group = λ h rs. record { hash = h; ranges = rs } in
    let first : g ≡ f = ap (λ h. mk h g.ranges) hash ∙ ap (λ rs. mk f.hash rs) ranges in
    ap (λ x. x ∷ gs) first ∙ ap (λ xs. f ∷ xs) rest

pub merged_unique : (P : List ℕ → ℕ → Type 0) (gs fs : List Group) → IsMerged P gs → IsMerged P fs → gs ≡ fs
merged_unique P gs fs a b = same_groups gs fs a.rising b.rising a.runs b.runs (λ x k p. (b.covers x k).1 ((a.covers x k).0 p)) (λ x k p. (a.covers x k).1 ((b.covers x k).0 p))
