-- Cuts, sorted, merged and grouped, are the runs of their chunks.
use Rattle.std.proofs.Common.{◌≡◌, ℕ, ◌<◌, ◌≤◌, List, [], ◌∷◌, length, map, get_or, refl, sym, ap, subst, arith, ◌⊎◌, inl, inr, zero, suc}
use Rattle.std.specs.List.{AllByRecursion, Contains}
use Rattle.std.specs.List.Sorted.{IsPermutation}
use Rattle.std.proofs.lemmas.List.Sorted.{IsPermutation-sym, Contains-permutation, All-permutation}
use Rattle.std.proofs.lemmas.List.Elements.{All-from_recursion, recursion_from_All}
use Rattle.xet_plan.specs.declared.place.Cut.{Cut}
use Rattle.xet_plan.specs.Places.{interval}
use Rattle.xet_plan.specs.Runs.{Covers, IsMerged}
use Rattle.xet_plan.specs.Merging.{InOrder, Apart, NoneEmpty, CutsHave, Past, range_of, merge_from, merged, group_from, grouped, group_of, CutAt, RangesAt}
use Rattle.xet_plan.proofs.Order.{all_map}
use Rattle.xet_plan.proofs.Merging.{IsMergeOf, merge_ok, merge_at}
use Rattle.xet_plan.proofs.Grouping.{IsGrouping, Follows, group_ok, group_at, follows_one}

abbrev pub In : Cut → List ℕ → ℕ → Type 0
In c h k = (c.hash ≡ h) × (c.start ≤ k) × (k < c.end)

have_contains : (cs : List Cut) (h : List ℕ) (k : ℕ) → CutsHave cs h k → (c : Cut) × Contains cs c × In c h k
have_contains [] h k p = absurd p
have_contains (c ∷ cs) h k (inl p) = (c, (0, omega arith, refl), p)
have_contains (c ∷ cs) h k (inr p) =
    let r : (d : Cut) × Contains cs d × In d h k = have_contains cs h k p in
    (r.0, (suc r.1.0, omega (arith, r.1.1), r.1.2), r.2)

have_at : (cs : List Cut) (h : List ℕ) (k : ℕ) (i : ℕ) (d : Cut) → i < length cs → In (get_or cs i d) h k → CutsHave cs h k
have_at [] h k i d l p = absurd (omega arith)
have_at (c ∷ cs) h k zero d l p = inl p
have_at (c ∷ cs) h k (suc i) d l p = inr (have_at cs h k i d (omega arith) p)

pub have_permutation : (xs ys : List Cut) → IsPermutation xs ys → (h : List ℕ) (k : ℕ) → CutsHave xs h k → CutsHave ys h k
have_permutation xs ys m h k p =
    let r : (c : Cut) × Contains xs c × In c h k = have_contains xs h k p in
    let q : Contains ys r.0 = Contains-permutation xs ys r.0 m r.1 in
    have_at ys h k q.0 r.0 q.1 (subst (λ c. In c h k) (sym q.2) r.2)

pub all_permutation : (P : Cut → Type 0) (xs ys : List Cut) → IsPermutation xs ys → AllByRecursion P xs → AllByRecursion P ys
all_permutation P xs ys m a = recursion_from_All P ys (All-permutation P xs ys m (All-from_recursion P xs a))

to_have : (c : Cut) (cs : List Cut) (h : List ℕ) (k : ℕ) → ((c.hash ≡ h) × Covers (interval c.start c.end ∷ []) k) ⊎ CutsHave cs h k → CutsHave (c ∷ cs) h k
to_have c cs h k (inl p) = elim p.1 as (λ _. CutsHave (c ∷ cs) h k) [ inl q ↦ inl (p.0, q.0, q.1) | inr q ↦ absurd q ]
to_have c cs h k (inr p) = inr p

from_have : (c : Cut) (cs : List Cut) (h : List ℕ) (k : ℕ) → CutsHave (c ∷ cs) h k → ((c.hash ≡ h) × Covers (interval c.start c.end ∷ []) k) ⊎ CutsHave cs h k
from_have c cs h k (inl p) = inl (p.0, inl (p.1, p.2))
from_have c cs h k (inr p) = inr p

pub grouped_ok : (cs : List Cut) → Apart cs → NoneEmpty cs → IsMerged (CutsHave cs) (map group_of (grouped cs))
grouped_ok [] a n = record { rising = tt; runs = tt; covers = λ h k. (λ p. p, λ p. p) }
grouped_ok (c ∷ cs) a n =
    let g : IsGrouping c.hash (interval c.start c.end ∷ []) cs (map group_of (group_from c.hash (range_of c ∷ []) cs))
    = group_ok c.hash (range_of c ∷ []) cs (omega arith) (n.0, tt, tt) (all_map (Past c) (Follows c.hash (interval c.start c.end ∷ [])) (λ x p. follows_one c x p) cs a.0) a.1 n.1 in
    record { rising = g.rising; runs = g.runs; covers = λ h k. (λ p. to_have c cs h k (g.have h k p), λ p. g.all h k (from_have c cs h k p)) }

merged_ok : (cs : List Cut) → InOrder cs → NoneEmpty cs → Apart (merged cs) × NoneEmpty (merged cs) × ((h : List ℕ) (k : ℕ) → CutsHave (merged cs) h k → CutsHave cs h k) × ((h : List ℕ) (k : ℕ) → CutsHave cs h k → CutsHave (merged cs) h k)
merged_ok [] o n = (tt, tt, λ h k p. p, λ h k p. p)
merged_ok (c ∷ cs) o n =
    let m : IsMergeOf c cs (merge_from c cs) = merge_ok c cs n.0 n.1 o.0 o.1 in
    (m.apart, m.full, m.have, m.all)

pub runs_ok : (cuts sorted : List Cut) → IsPermutation cuts sorted → InOrder sorted → NoneEmpty cuts → IsMerged (CutsHave cuts) (map group_of (grouped (merged sorted)))
runs_ok cuts sorted m o n =
    let t : Apart (merged sorted) × NoneEmpty (merged sorted) × ((h : List ℕ) (k : ℕ) → CutsHave (merged sorted) h k → CutsHave sorted h k) × ((h : List ℕ) (k : ℕ) → CutsHave sorted h k → CutsHave (merged sorted) h k)
    = merged_ok sorted o (all_permutation (λ c. c.start < c.end) cuts sorted m n) in
    let g : IsMerged (CutsHave (merged sorted)) (map group_of (grouped (merged sorted))) = grouped_ok (merged sorted) t.0 t.1 in
    record {
      rising = g.rising;
      runs = g.runs;
      covers = λ h k. (λ p. have_permutation sorted cuts (IsPermutation-sym cuts sorted m) h k (t.2 h k ((g.covers h k).0 p)), λ p. (g.covers h k).1 (t.3 h k (have_permutation cuts sorted m h k p)));
    }

merged_at : (f : List ℕ → ℕ → ℕ) (cs : List Cut) → AllByRecursion (CutAt f) cs → AllByRecursion (CutAt f) (merged cs)
merged_at f [] a = tt
merged_at f (c ∷ cs) a = merge_at f c cs a.0 a.1

grouped_at : (f : List ℕ → ℕ → ℕ) (cs : List Cut) → AllByRecursion (CutAt f) cs → AllByRecursion (RangesAt f) (grouped cs)
grouped_at f [] a = tt
grouped_at f (c ∷ cs) a = group_at f c.hash (range_of c ∷ []) cs ((a.0.0, a.0.1), tt) a.1

pub runs_at : (f : List ℕ → ℕ → ℕ) (cuts sorted : List Cut) → IsPermutation cuts sorted → AllByRecursion (CutAt f) cuts → AllByRecursion (RangesAt f) (grouped (merged sorted))
runs_at f cuts sorted m a = grouped_at f (merged sorted) (merged_at f sorted (all_permutation (CutAt f) cuts sorted m a))

pub map_shown : {X Y Z : Type 0} (f : X → Y) (g : Y → Z) (xs : List X) → map (λ x. g (f x)) xs ≡ map g (map f xs)
map_shown f g [] = refl
map_shown f g (x ∷ xs) = ap (λ ys. g (f x) ∷ ys) (map_shown f g xs)
