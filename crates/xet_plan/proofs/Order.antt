-- The order of hashes, and of cuts.
use Rattle.std.proofs.Common.{◌≡◌, ◌∙◌, ℕ, ◌+◌, ◌<◌, ◌≤◌, nat_lt, suc, List, [], ◌∷◌, ◌++◌, refl, sym, ap, subst, arith, true, false, Ordering, inl, inr, length, get_or}
use Rattle.std.specs.declared.cmp.Ordering.TheVariants.{Less, Equal, Greater}
use Rattle.std.specs.Ordering.{nat_cmp, is_lt, is_eq, ordering_then, ordering_reverse}
use Rattle.std.specs.Cmp.{tied_itself}
use Rattle.std.specs.Cmp.Lexicographic.{slice_cmp, nat_list_cmp_total, bytes_decides}
use Rattle.xet_types.specs.Names.{same_hash}
use Rattle.std.proofs.lemmas.Map.Text.{is_eq-slice_cmp}
use Rattle.std.proofs.lemmas.Bool.{cases_lt, lt-ltb}
use Rattle.std.specs.List.{AllByRecursion}
use Rattle.xet_plan.specs.declared.place.Cut.{Cut}
use Rattle.xet_plan.specs.Runs.{Before}
use Rattle.xet_plan.specs.Merging.{From, Past, InOrder}

pub before-trans : (a b c : List ℕ) → Before a b → Before b c → Before a c
before-trans a b c p q = nat_list_cmp_total.trans a b c p q

pub before-itself : (a : List ℕ) → Before a a → ⊥
before-itself a p = let e : slice_cmp nat_cmp a a ≡ Equal = tied_itself nat_list_cmp_total a in cc

pub before-same : (a b : List ℕ) → Before a b → a ≡ b → ⊥
before-same a b p e = before-itself b (subst (λ x. Before x b) e p)

pub same_from_equal : (a b : List ℕ) → slice_cmp nat_cmp a b ≡ Equal → a ≡ b
same_from_equal a b e = (bytes_decides a b).0 (sym (is_eq-slice_cmp a b) ∙ ap is_eq e)

pub same-hash : (a b : List ℕ) → same_hash a b ≡ true → a ≡ b
same-hash a b e = (bytes_decides a b).0 e

pub other-hash : (a b : List ℕ) → same_hash a b ≡ false → a ≡ b → ⊥
other-hash a b e p = let t : same_hash a b ≡ true = (bytes_decides a b).1 p in cc

pub turned : (a b : List ℕ) → slice_cmp nat_cmp b a ≡ Greater → Before a b
turned a b e = nat_list_cmp_total.antisymm a b ∙ ap ordering_reverse e

no_less : (m n : ℕ) (rest : Ordering) → is_lt (ordering_then (nat_cmp m n) rest) ≡ false → n ≤ m
no_less m n rest h = elim (cases_lt m n) as (λ _. n ≤ m) [
  | inl l ↦ (let t : nat_lt m n ≡ true = lt-ltb m n l in let f : true ≡ false = rw t at h in cc)
  | inr l ↦ l
]

-- what a sort says of two neighbours
pub from_cmp : (a b : Cut) (rest : Ordering) → is_lt (ordering_then (slice_cmp nat_cmp b.hash a.hash) (ordering_then (nat_cmp b.start a.start) rest)) ≡ false → From a b
from_cmp a b rest h = go (slice_cmp nat_cmp b.hash a.hash) refl h
  where
    go : (o : Ordering) → slice_cmp nat_cmp b.hash a.hash ≡ o → is_lt (ordering_then o (ordering_then (nat_cmp b.start a.start) rest)) ≡ false → From a b
    go Less e q = let f : ⊥ = cc in absurd f
    go Equal e q = inr (sym (same_from_equal b.hash a.hash e), no_less b.start a.start rest q)
    go Greater e q = inl (turned a.hash b.hash e)

pub from-trans : (a b c : Cut) → From a b → From b c → From a c
from-trans a b c (inl p) (inl q) = inl (before-trans a.hash b.hash c.hash p q)
from-trans a b c (inl p) (inr q) = inl (subst (λ x. Before a.hash x) q.0 p)
from-trans a b c (inr p) (inl q) = inl (subst (λ x. Before x c.hash) (sym p.0) q)
from-trans a b c (inr p) (inr q) = inr (p.0 ∙ q.0, omega (arith, p.1, q.1))

pub past-from : (a b c : Cut) → Past a b → From b c → Past a c
past-from a b c (inl p) (inl q) = inl (before-trans a.hash b.hash c.hash p q)
past-from a b c (inl p) (inr q) = inl (subst (λ x. Before a.hash x) q.0 p)
past-from a b c (inr p) (inl q) = inl (subst (λ x. Before x c.hash) (sym p.0) q)
past-from a b c (inr p) (inr q) = inr (p.0 ∙ q.0, omega (arith, p.1, q.1))

pub all_map : {X : Type 0} (P Q : X → Type 0) → ((x : X) → P x → Q x) → (xs : List X) → AllByRecursion P xs → AllByRecursion Q xs
all_map P Q f [] h = tt
all_map P Q f (x ∷ xs) h = (f x h.0, all_map P Q f xs h.1)

pub all_both : {X : Type 0} (P Q R : X → Type 0) → ((x : X) → P x → Q x → R x) → (xs : List X) → AllByRecursion P xs → AllByRecursion Q xs → AllByRecursion R xs
all_both P Q R f [] h k = tt
all_both P Q R f (x ∷ xs) h k = (f x h.0 k.0, all_both P Q R f xs h.1 k.1)

pub all_push : {X : Type 0} (P : X → Type 0) (xs : List X) (x : X) → AllByRecursion P xs → P x → AllByRecursion P (xs ++ x ∷ [])
all_push P [] x h p = (p, tt)
all_push P (y ∷ ys) x h p = (h.0, all_push P ys x h.1 p)

-- each neighbour in order
abbrev pub Neighbours : List Cut → Type 0
Neighbours xs = (k : ℕ) (d : Cut) → k + 1 < length xs → From (get_or xs k d) (get_or xs (k + 1) d)

neighbours_tail : (x : Cut) (xs : List Cut) → Neighbours (x ∷ xs) → Neighbours xs
neighbours_tail x xs h k d l = let e : suc k + 1 ≡ suc (k + 1) = omega arith in rw e at (h (suc k) d (omega arith))

pub in_order_from_neighbours : (xs : List Cut) → Neighbours xs → InOrder xs
in_order_from_neighbours [] h = tt
in_order_from_neighbours (x ∷ []) h = (tt, tt)
in_order_from_neighbours (x ∷ y ∷ ys) h =
    let rest : InOrder (y ∷ ys) = in_order_from_neighbours (y ∷ ys) (λ k d l. neighbours_tail x (y ∷ ys) h k d l) in
    let first : From x y = h 0 x (omega arith) in
    ((first, all_map (From y) (From x) (λ z q. from-trans x y z first q) ys rest.0), rest)
