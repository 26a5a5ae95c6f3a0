-- Cuts that overlap or touch, made one.
use Rattle.std.proofs.Common.{◌≡◌, ◌∙◌, ℕ, ◌<◌, ◌≤◌, nat_lt, nat_le, ◌&&◌, max, cond, List, [], ◌∷◌, refl, sym, ap, arith, true, false, Bool, inl, inr}
use Rattle.std.specs.Bool.{if◌then◌else◌}
use Rattle.std.specs.List.{AllByRecursion}
use Rattle.xet_types.specs.Names.{same_hash}
use Rattle.std.proofs.lemmas.Bool.{cases_lt, leb-true, le-leb, lt-ltb, le-ltb}
use Rattle.std.specs.Cmp.Lexicographic.{bytes_decides}
use Rattle.xet_plan.specs.declared.place.Cut.{Cut}
use Rattle.xet_plan.specs.Merging.{From, Past, InOrder, Apart, NoneEmpty, CutsHave, joins, joined, merge_from, CutAt}
use Rattle.xet_plan.proofs.Order.{before-same, same-hash, from-trans, past-from, all_map}

pub joined-hash : (a b : Cut) → (joined a b).hash ≡ a.hash
joined-hash a b = elim (nat_lt a.end b.end) as (λ t. (cond t (record a { end = b.end; byte_end = b.byte_end }) a).hash ≡ a.hash) [ true ↦ refl | false ↦ refl ]

pub joined-start : (a b : Cut) → (joined a b).start ≡ a.start
joined-start a b = elim (nat_lt a.end b.end) as (λ t. (cond t (record a { end = b.end; byte_end = b.byte_end }) a).start ≡ a.start) [ true ↦ refl | false ↦ refl ]

pub joined-end : (a b : Cut) → (joined a b).end ≡ max a.end b.end
joined-end a b = elim (cases_lt a.end b.end) as (λ _. (joined a b).end ≡ max a.end b.end) [
  | inl l ↦ rw (lt-ltb a.end b.end l) (omega arith)
  | inr l ↦ rw (le-ltb a.end b.end l) (omega arith)
]

both : (a b : Bool) → (a && b) ≡ true → (a ≡ true) × (b ≡ true)
both true true h = (refl, refl)
both true false h = let f : ⊥ = cc in absurd f
both false b h = let f : ⊥ = cc in absurd f

joins-true : (a b : Cut) → joins a b ≡ true → (a.hash ≡ b.hash) × (b.start ≤ a.end)
joins-true a b h =
    let t : (same_hash b.hash a.hash ≡ true) × (nat_le b.start a.end ≡ true) = both (same_hash b.hash a.hash) (nat_le b.start a.end) h in
    (sym (same-hash b.hash a.hash t.0), leb-true b.start a.end t.1)

joins-false : (a b : Cut) → joins a b ≡ false → a.hash ≡ b.hash → a.end < b.start
joins-false a b h e = elim (cases_lt a.end b.start) as (λ _. a.end < b.start) [
  | inl l ↦ l
  | inr l ↦
      (let x : same_hash b.hash a.hash ≡ true = (bytes_decides b.hash a.hash).1 (sym e) in
      let y : nat_le b.start a.end ≡ true = le-leb b.start a.end l in
      let f : true ≡ false = rw (x, y) at h in cc)
]

pub record IsMergeOf (c : Cut) (ds out : List Cut) : Type 0 where
  pub apart : Apart out
  pub full : NoneEmpty out
  pub from : AllByRecursion (From c) out
  pub have : (h : List ℕ) (k : ℕ) → CutsHave out h k → CutsHave (c ∷ ds) h k
  pub all : (h : List ℕ) (k : ℕ) → CutsHave (c ∷ ds) h k → CutsHave out h k

from_joined : (c d x : Cut) → From c x → From (joined c d) x
from_joined c d x h = rw (joined-hash c d, joined-start c d) h

to_joined : (c d x : Cut) → From (joined c d) x → From c x
to_joined c d x h = rw (joined-hash c d, joined-start c d) at h

-- a later cut of the same hash begins no earlier
start_from : (c d : Cut) → From c d → c.hash ≡ d.hash → c.start ≤ d.start
start_from c d (inl p) e = absurd (before-same c.hash d.hash p e)
start_from c d (inr p) e = p.1

past_apart : (c d : Cut) → From c d → joins c d ≡ false → Past c d
past_apart c d (inl p) e = inl p
past_apart c d (inr p) e = inr (p.0, joins-false c d e p.0)

have_joined : (c d : Cut) (ds : List Cut) → joins c d ≡ true → (h : List ℕ) (k : ℕ) → CutsHave (joined c d ∷ ds) h k → CutsHave (c ∷ d ∷ ds) h k
have_joined c d ds t h k (inl p) =
    let j : (c.hash ≡ d.hash) × (d.start ≤ c.end) = joins-true c d t in
    let hash : c.hash ≡ h = sym (joined-hash c d) ∙ p.0 in
    let low : c.start ≤ k = rw (joined-start c d) at p.1 in
    let high : k < max c.end d.end = rw (joined-end c d) at p.2 in
    elim (cases_lt k c.end) as (λ _. CutsHave (c ∷ d ∷ ds) h k) [
      | inl l ↦ inl (hash, low, l)
      | inr l ↦ inr (inl (sym j.0 ∙ hash, omega arith, omega arith))
    ]
have_joined c d ds t h k (inr p) = inr (inr p)

all_joined : (c d : Cut) (ds : List Cut) → joins c d ≡ true → From c d → (h : List ℕ) (k : ℕ) → CutsHave (c ∷ d ∷ ds) h k → CutsHave (joined c d ∷ ds) h k
all_joined c d ds t f h k (inl p) = inl (joined-hash c d ∙ p.0, rw (joined-start c d) p.1, rw (joined-end c d) (omega (arith, p.2)))
all_joined c d ds t f h k (inr (inl p)) =
    let j : (c.hash ≡ d.hash) × (d.start ≤ c.end) = joins-true c d t in
    inl (joined-hash c d ∙ (j.0 ∙ p.0), rw (joined-start c d) (omega (arith, start_from c d f j.0, p.1)), rw (joined-end c d) (omega (arith, p.2)))
all_joined c d ds t f h k (inr (inr p)) = inr p

have_apart : (c d : Cut) (ds out : List Cut) → ((h : List ℕ) (k : ℕ) → CutsHave out h k → CutsHave (d ∷ ds) h k) → (h : List ℕ) (k : ℕ) → CutsHave (c ∷ out) h k → CutsHave (c ∷ d ∷ ds) h k
have_apart c d ds out f h k (inl p) = inl p
have_apart c d ds out f h k (inr p) = inr (f h k p)

all_apart : (c d : Cut) (ds out : List Cut) → ((h : List ℕ) (k : ℕ) → CutsHave (d ∷ ds) h k → CutsHave out h k) → (h : List ℕ) (k : ℕ) → CutsHave (c ∷ d ∷ ds) h k → CutsHave (c ∷ out) h k
all_apart c d ds out f h k (inl p) = inl p
all_apart c d ds out f h k (inr p) = inr (f h k p)

pub merge_ok : (c : Cut) (ds : List Cut) → c.start < c.end → NoneEmpty ds → AllByRecursion (From c) ds → InOrder ds → IsMergeOf c ds (merge_from c ds)
merge_ok c [] n ns f o = record { apart = (tt, tt); full = (n, tt); from = (inr (refl, omega arith), tt); have = λ h k p. p; all = λ h k p. p }
merge_ok c (d ∷ ds) n ns f o =
    let one : IsMergeOf (joined c d) ds (merge_from (joined c d) ds)
    = merge_ok (joined c d) ds (rw (joined-start c d, joined-end c d) (omega arith)) ns.1 (all_map (From c) (From (joined c d)) (λ x q. from_joined c d x q) ds f.1) o.1 in
    let two : IsMergeOf d ds (merge_from d ds) = merge_ok d ds ns.0 ns.1 o.0 o.1 in
    let by : (b : Bool) → joins c d ≡ b → IsMergeOf c (d ∷ ds) (if b then merge_from (joined c d) ds else c ∷ merge_from d ds)
    = λ b. elim b as (λ b. joins c d ≡ b → IsMergeOf c (d ∷ ds) (if b then merge_from (joined c d) ds else c ∷ merge_from d ds)) [
      | true ↦ λ t. record {
        apart = one.apart;
        full = one.full;
        from = all_map (From (joined c d)) (From c) (λ x q. to_joined c d x q) (merge_from (joined c d) ds) one.from;
        have = λ h k p. have_joined c d ds t h k (one.have h k p);
        all = λ h k p. one.all h k (all_joined c d ds t f.0 h k p);
      }
      | false ↦ λ t. record {
        apart = (all_map (From d) (Past c) (λ x q. past-from c d x (past_apart c d f.0 t) q) (merge_from d ds) two.from, two.apart);
        full = (n, two.full);
        from = (inr (refl, omega arith), all_map (From d) (From c) (λ x q. from-trans c d x f.0 q) (merge_from d ds) two.from);
        have = have_apart c d ds (merge_from d ds) two.have;
        all = all_apart c d ds (merge_from d ds) two.all;
      }
    ] in
    by (joins c d) refl

joined_at : (f : List ℕ → ℕ → ℕ) (a b : Cut) → a.hash ≡ b.hash → CutAt f a → CutAt f b → CutAt f (joined a b)
joined_at f a b e p q = elim (nat_lt a.end b.end) as (λ t. CutAt f (cond t (record a { end = b.end; byte_end = b.byte_end }) a)) [
  | true ↦ (p.0, q.1 ∙ ap (λ h. f h b.end) (sym e))
  | false ↦ p
]

-- the bytes of merged cuts lie where those of the cuts lie
pub merge_at : (f : List ℕ → ℕ → ℕ) (c : Cut) (ds : List Cut) → CutAt f c → AllByRecursion (CutAt f) ds → AllByRecursion (CutAt f) (merge_from c ds)
merge_at f c [] p ps = (p, tt)
merge_at f c (d ∷ ds) p ps =
    let by : (b : Bool) → joins c d ≡ b → AllByRecursion (CutAt f) (if b then merge_from (joined c d) ds else c ∷ merge_from d ds)
    = λ b. elim b as (λ b. joins c d ≡ b → AllByRecursion (CutAt f) (if b then merge_from (joined c d) ds else c ∷ merge_from d ds)) [
      | true ↦ λ t. merge_at f (joined c d) ds (joined_at f c d (joins-true c d t).0 p ps.0) ps.1
      | false ↦ λ t. (p, merge_at f d ds ps.0 ps.1)
    ] in
    by (joins c d) refl
