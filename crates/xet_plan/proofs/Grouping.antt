-- Cuts of one hash in one group.
use Rattle.std.proofs.Common.{◌≡◌, ◌∙◌, ℕ, ◌<◌, ◌≤◌, List, [], ◌∷◌, ◌++◌, length, map, refl, sym, ap, subst, arith, true, false, Bool, ◌⊎◌, inl, inr}
use Rattle.std.specs.Bool.{if◌then◌else◌}
use Rattle.std.specs.List.{AllByRecursion}
use Rattle.xet_types.specs.Names.{same_hash}
use Rattle.std.proofs.lemmas.List.{map_push, length_push, length-map}
use Rattle.xet_plan.specs.declared.place.Cut.{Cut}
use Rattle.xet_plan.specs.declared.runs.MergedRange.{MergedRange}
use Rattle.xet_plan.specs.Places.{Interval, interval}
use Rattle.xet_plan.specs.Runs.{Before, Covers, Separated, Group, Rising, InGroups}
use Rattle.xet_plan.specs.Merging.{Past, Apart, NoneEmpty, CutsHave, range_of, ranges, chunks_part, group_from, group_of, CutAt, RangeAt, RangesAt}
use Rattle.xet_plan.proofs.Order.{before-trans, before-same, same-hash, other-hash, all_map, all_both, all_push}

abbrev pub intervals : List MergedRange → List Interval
intervals ps = map chunks_part ps

pub separated_push : (rs : List Interval) (r : Interval) → Separated rs → AllByRecursion (λ q. q.end < r.start) rs → r.start < r.end → Separated (rs ++ r ∷ [])
separated_push [] r s a n = (n, tt, tt)
separated_push (q ∷ qs) r s a n = (s.0, all_push (λ x. q.end < x.start) qs r s.1 a.0, separated_push qs r s.2 a.1 n)

pub covers_push : (rs : List Interval) (r : Interval) (k : ℕ) → Covers (rs ++ r ∷ []) k → Covers rs k ⊎ ((r.start ≤ k) × (k < r.end))
covers_push [] r k (inl p) = inr p
covers_push [] r k (inr p) = absurd p
covers_push (q ∷ qs) r k (inl p) = inl (inl p)
covers_push (q ∷ qs) r k (inr p) = elim (covers_push qs r k p) as (λ _. Covers (q ∷ qs) k ⊎ ((r.start ≤ k) × (k < r.end))) [ inl x ↦ inl (inr x) | inr x ↦ inr x ]

pub covers_left : (rs : List Interval) (r : Interval) (k : ℕ) → Covers rs k → Covers (rs ++ r ∷ []) k
covers_left [] r k p = absurd p
covers_left (q ∷ qs) r k (inl p) = inl p
covers_left (q ∷ qs) r k (inr p) = inr (covers_left qs r k p)

pub covers_right : (rs : List Interval) (r : Interval) (k : ℕ) → r.start ≤ k → k < r.end → Covers (rs ++ r ∷ []) k
covers_right [] r k l h = inl (l, h)
covers_right (q ∷ qs) r k l h = inr (covers_right qs r k l h)

-- a cut that comes after all ranges of a hash
abbrev pub Follows : List ℕ → List Interval → Cut → Type 0
Follows h rs c = Before h c.hash ⊎ ((h ≡ c.hash) × AllByRecursion (λ r. r.end < c.start) rs)

pub record IsGrouping (h : List ℕ) (rs : List Interval) (cs : List Cut) (out : List Group) : Type 0 where
  pub rising : Rising out
  pub first : AllByRecursion (λ g. (h ≡ g.hash) ⊎ Before h g.hash) out
  pub runs : AllByRecursion (λ g. (0 < length g.ranges) × Separated g.ranges) out
  pub have : (x : List ℕ) (k : ℕ) → InGroups out x k → ((h ≡ x) × Covers rs k) ⊎ CutsHave cs x k
  pub all : (x : List ℕ) (k : ℕ) → ((h ≡ x) × Covers rs k) ⊎ CutsHave cs x k → InGroups out x k

follows_push : (h : List ℕ) (rs : List Interval) (c x : Cut) → c.hash ≡ h → Follows h rs x → Past c x → Follows h (rs ++ interval c.start c.end ∷ []) x
follows_push h rs c x e (inl p) q = inl p
follows_push h rs c x e (inr p) (inl q) = absurd (before-same c.hash x.hash q (e ∙ p.0))
follows_push h rs c x e (inr p) (inr q) = inr (p.0, all_push (λ r. r.end < x.start) rs (interval c.start c.end) p.1 q.1)

pub follows_one : (c x : Cut) → Past c x → Follows c.hash (interval c.start c.end ∷ []) x
follows_one c x (inl p) = inl p
follows_one c x (inr p) = inr (p.0, (p.1, tt))

same_ranges : (h : List ℕ) (rs : List Interval) (c : Cut) → h ≡ c.hash → Follows h rs c → AllByRecursion (λ r. r.end < c.start) rs
same_ranges h rs c e (inl p) = absurd (before-same h c.hash p e)
same_ranges h rs c e (inr p) = p.1

before_next : (h : List ℕ) (rs : List Interval) (c : Cut) → (h ≡ c.hash → ⊥) → Follows h rs c → Before h c.hash
before_next h rs c n (inl p) = p
before_next h rs c n (inr p) = absurd (n p.0)

before_from : (h g x : List ℕ) → Before h g → (g ≡ x) ⊎ Before g x → Before h x
before_from h g x p (inl e) = subst (λ y. Before h y) e p
before_from h g x p (inr q) = before-trans h g x p q

weaker_first : (h g x : List ℕ) → Before h g → (g ≡ x) ⊎ Before g x → (h ≡ x) ⊎ Before h x
weaker_first h g x p q = inr (before_from h g x p q)

-- one more cut of the same hash
have_same : (h : List ℕ) (rs : List Interval) (c : Cut) (cs : List Cut) (x : List ℕ) (k : ℕ) → c.hash ≡ h
    → ((h ≡ x) × Covers (rs ++ interval c.start c.end ∷ []) k) ⊎ CutsHave cs x k → ((h ≡ x) × Covers rs k) ⊎ CutsHave (c ∷ cs) x k
have_same h rs c cs x k e (inl p) = elim (covers_push rs (interval c.start c.end) k p.1) as (λ _. ((h ≡ x) × Covers rs k) ⊎ CutsHave (c ∷ cs) x k) [
  | inl q ↦ inl (p.0, q)
  | inr q ↦ inr (inl (e ∙ p.0, q.0, q.1))
]
have_same h rs c cs x k e (inr p) = inr (inr p)

all_same : (h : List ℕ) (rs : List Interval) (c : Cut) (cs : List Cut) (x : List ℕ) (k : ℕ) → c.hash ≡ h
    → ((h ≡ x) × Covers rs k) ⊎ CutsHave (c ∷ cs) x k → ((h ≡ x) × Covers (rs ++ interval c.start c.end ∷ []) k) ⊎ CutsHave cs x k
all_same h rs c cs x k e (inl p) = inl (p.0, covers_left rs (interval c.start c.end) k p.1)
all_same h rs c cs x k e (inr (inl p)) = inl (sym e ∙ p.0, covers_right rs (interval c.start c.end) k p.1 p.2)
all_same h rs c cs x k e (inr (inr p)) = inr p

-- a group that is done
have_next : (h : List ℕ) (rs : List Interval) (c : Cut) (cs : List Cut) (out : List Group) → ((x : List ℕ) (k : ℕ) → InGroups out x k → ((c.hash ≡ x) × Covers (interval c.start c.end ∷ []) k) ⊎ CutsHave cs x k)
    → (x : List ℕ) (k : ℕ) → InGroups (record { hash = h; ranges = rs } ∷ out) x k → ((h ≡ x) × Covers rs k) ⊎ CutsHave (c ∷ cs) x k
have_next h rs c cs out f x k (inl p) = inl p
have_next h rs c cs out f x k (inr p) = elim (f x k p) as (λ _. ((h ≡ x) × Covers rs k) ⊎ CutsHave (c ∷ cs) x k) [
  | inl q ↦ (elim q.1 as (λ _. ((h ≡ x) × Covers rs k) ⊎ CutsHave (c ∷ cs) x k) [ inl r ↦ inr (inl (q.0, r.0, r.1)) | inr r ↦ absurd r ])
  | inr q ↦ inr (inr q)
]

all_next : (h : List ℕ) (rs : List Interval) (c : Cut) (cs : List Cut) (out : List Group) → ((x : List ℕ) (k : ℕ) → ((c.hash ≡ x) × Covers (interval c.start c.end ∷ []) k) ⊎ CutsHave cs x k → InGroups out x k)
    → (x : List ℕ) (k : ℕ) → ((h ≡ x) × Covers rs k) ⊎ CutsHave (c ∷ cs) x k → InGroups (record { hash = h; ranges = rs } ∷ out) x k
all_next h rs c cs out f x k (inl p) = inl p
all_next h rs c cs out f x k (inr (inl p)) = inr (f x k (inl (p.0, inl (p.1, p.2))))
all_next h rs c cs out f x k (inr (inr p)) = inr (f x k (inr p))

pub group_ok : (h : List ℕ) (ps : List MergedRange) (cs : List Cut) → 0 < length ps → Separated (intervals ps) → AllByRecursion (Follows h (intervals ps)) cs → Apart cs → NoneEmpty cs
    → IsGrouping h (intervals ps) cs (map group_of (group_from h ps cs))
group_ok h ps [] some s f a n = record {
  rising = (tt, tt);
  first = (inl refl, tt);
  runs = ((rw length-map some, s), tt);
  have = λ x k p. p;
  all = λ x k p. p;
}
group_ok h ps (c ∷ cs) some s f a n =
    let r = interval c.start c.end in
    let by : (b : Bool) → same_hash c.hash h ≡ b → IsGrouping h (intervals ps) (c ∷ cs) (map group_of (if b then group_from h (ps ++ range_of c ∷ []) cs else ranges h ps ∷ group_from c.hash (range_of c ∷ []) cs))
    = λ b. elim b as (λ b. same_hash c.hash h ≡ b → IsGrouping h (intervals ps) (c ∷ cs) (map group_of (if b then group_from h (ps ++ range_of c ∷ []) cs else ranges h ps ∷ group_from c.hash (range_of c ∷ []) cs))) [
      | true ↦ λ t.
          (let e : c.hash ≡ h = same-hash c.hash h t in
          let q : intervals (ps ++ range_of c ∷ []) ≡ intervals ps ++ r ∷ [] = map_push chunks_part ps (range_of c) in
          let sep : Separated (intervals (ps ++ range_of c ∷ [])) = subst Separated (sym q) (separated_push (intervals ps) r s (same_ranges h (intervals ps) c (sym e) f.0) n.0) in
          let next : AllByRecursion (Follows h (intervals (ps ++ range_of c ∷ []))) cs = subst (λ rs. AllByRecursion (Follows h rs) cs) (sym q) (all_both (Follows h (intervals ps)) (Past c) (Follows h (intervals ps ++ r ∷ [])) (λ x u v. follows_push h (intervals ps) c x e u v) cs f.1 a.0) in
          let one : IsGrouping h (intervals (ps ++ range_of c ∷ [])) cs (map group_of (group_from h (ps ++ range_of c ∷ []) cs)) = group_ok h (ps ++ range_of c ∷ []) cs (omega (arith, length_push ps (range_of c))) sep next a.1 n.1 in
          let two : IsGrouping h (intervals ps ++ r ∷ []) cs (map group_of (group_from h (ps ++ range_of c ∷ []) cs)) = subst (λ rs. IsGrouping h rs cs (map group_of (group_from h (ps ++ range_of c ∷ []) cs))) q one in
          record {
            rising = two.rising;
            first = two.first;
            runs = two.runs;
            have = λ x k p. have_same h (intervals ps) c cs x k e (two.have x k p);
            all = λ x k p. two.all x k (all_same h (intervals ps) c cs x k e p);
          })
      | false ↦ λ t.
          (let b : Before h c.hash = before_next h (intervals ps) c (λ (e : h ≡ c.hash). other-hash c.hash h t (sym e)) f.0 in
          let out = map group_of (group_from c.hash (range_of c ∷ []) cs) in
          let two : IsGrouping c.hash (r ∷ []) cs out = group_ok c.hash (range_of c ∷ []) cs (omega arith) (n.0, tt, tt) (all_map (Past c) (Follows c.hash (r ∷ [])) (λ x p. follows_one c x p) cs a.0) a.1 n.1 in
          record {
            rising = (all_map (λ g. (c.hash ≡ g.hash) ⊎ Before c.hash g.hash) (λ g. Before h g.hash) (λ g p. before_from h c.hash g.hash b p) out two.first, two.rising);
            first = (inl refl, all_map (λ g. (c.hash ≡ g.hash) ⊎ Before c.hash g.hash) (λ g. (h ≡ g.hash) ⊎ Before h g.hash) (λ g p. weaker_first h c.hash g.hash b p) out two.first);
            runs = ((rw length-map some, s), two.runs);
            have = have_next h (intervals ps) c cs out two.have;
            all = all_next h (intervals ps) c cs out two.all;
          })
    ] in
    by (same_hash c.hash h) refl

range_at : (f : List ℕ → ℕ → ℕ) (h : List ℕ) (c : Cut) → c.hash ≡ h → CutAt f c → RangeAt f h (range_of c)
range_at f h c e p = (p.0 ∙ ap (λ x. f x c.start) e, p.1 ∙ ap (λ x. f x c.end) e)

-- the bytes of ranges lie where those of the cuts lie
pub group_at : (f : List ℕ → ℕ → ℕ) (h : List ℕ) (ps : List MergedRange) (cs : List Cut) → AllByRecursion (RangeAt f h) ps → AllByRecursion (CutAt f) cs → AllByRecursion (RangesAt f) (group_from h ps cs)
group_at f h ps [] p q = (p, tt)
group_at f h ps (c ∷ cs) p q =
    let by : (b : Bool) → same_hash c.hash h ≡ b → AllByRecursion (RangesAt f) (if b then group_from h (ps ++ range_of c ∷ []) cs else ranges h ps ∷ group_from c.hash (range_of c ∷ []) cs)
    = λ b. elim b as (λ b. same_hash c.hash h ≡ b → AllByRecursion (RangesAt f) (if b then group_from h (ps ++ range_of c ∷ []) cs else ranges h ps ∷ group_from c.hash (range_of c ∷ []) cs)) [
      | true ↦ λ t. group_at f h (ps ++ range_of c ∷ []) cs (all_push (RangeAt f h) ps (range_of c) p (range_at f h c (same-hash c.hash h t) q.0)) q.1
      | false ↦ λ t. (p, group_at f c.hash (range_of c ∷ []) cs (range_at f c.hash c refl q.0, tt) q.1)
    ] in
    by (same_hash c.hash h) refl
