-- Ranges in order, and the one that holds a term.
use Rattle.std.proofs.Common.{◌≡◌, ℕ, zero, suc, ◌<◌, ◌≤◌, true, false, Bool, List, [], ◌∷◌, length, get_or, Some, None, refl, sym, ap, subst, ◌∙◌, arith, inl, inr, Ordering, ◌⊎◌}
use Rattle.std.proofs.lemmas.Bool.{leb-true, le-leb, ltb-true}
use Rattle.std.specs.Prelude.{◌&&◌, nat_le}
use Rattle.std.specs.List.{AllByRecursion}
use Rattle.std.specs.List.Sorted.{IsPartitionedBy}
use Rattle.std.specs.Cmp.Lexicographic.{nat_list_cmp_total, bytes_decides}
use Rattle.std.specs.Ordering.{is_eq}
use Rattle.std.specs.Cmp.{tied_itself}
use Rattle.std.proofs.lemmas.Map.Text.{is_eq-slice_cmp}
use Rattle.std.specs.declared.cmp.Ordering.TheVariants.{Less, Equal, Greater}
use Rattle.xet_types.specs.Names.{same_hash, hash_cmp}
use Rattle.xet_types.specs.declared.record.XorbReconstructionTerm.{XorbReconstructionTerm}
use Rattle.xet_plan.proofs.Order.{before-trans, before-same, same-hash}
use Rattle.xet_service.specs.declared.reader.held.LinkRange.{LinkRange}
use Rattle.xet_service.specs.ReadingPlans.{range_holds, range_of}
use Rattle.xet_service.specs.ReadingOrder.{has_chunks, ends_in, ends_before, in_order_after, are_in_order, begins_in, begins_by}

-- ---- the order of ranges

-- a's chunks end before b's begin, in order of hash
abbrev pub Before : LinkRange → LinkRange → Type 0
Before a b = (hash_cmp a.hash b.hash ≡ Less) ⊎ ((a.hash ≡ b.hash) × (a.chunks.end < b.chunks.start))

abbrev pub InOrder : List LinkRange → Type 0
InOrder [] = Unit {0}
InOrder (r ∷ rs) = AllByRecursion (Before r) rs × InOrder rs

abbrev pub HasChunks : LinkRange → Type 0
HasChunks r = r.chunks.start < r.chunks.end

-- ---- the order of ranges and terms

abbrev pub Begins : LinkRange → XorbReconstructionTerm → Type 0
Begins s t = (hash_cmp s.hash t.hash ≡ Less) ⊎ ((s.hash ≡ t.hash) × (s.chunks.start ≤ t.range.start))

equal_same : (a b : List ℕ) → hash_cmp a b ≡ Equal → a ≡ b
equal_same a b e = (bytes_decides a b).0 (sym (is_eq-slice_cmp a b) ∙ ap is_eq e)

same_equal : (a b : List ℕ) → a ≡ b → hash_cmp a b ≡ Equal
same_equal a b e = subst (λ (x : List ℕ). hash_cmp a x ≡ Equal) e (tied_itself nat_list_cmp_total a)

pub begins_true : (s : LinkRange) (t : XorbReconstructionTerm) → begins_by s t ≡ true → Begins s t
begins_true s t e = of (hash_cmp s.hash t.hash) refl e
  where
    of : (o : Ordering) → hash_cmp s.hash t.hash ≡ o → begins_in o s t ≡ true → Begins s t
    of Less is h = inl is
    of Equal is h = inr (equal_same s.hash t.hash is, leb-true s.chunks.start t.range.start h)
    of Greater is h = absurd cc

pub begins_back : (s : LinkRange) (t : XorbReconstructionTerm) → Begins s t → begins_by s t ≡ true
begins_back s t (inl e) = ap (λ (o : Ordering). begins_in o s t) e
begins_back s t (inr p) = ap (λ (o : Ordering). begins_in o s t) (same_equal s.hash t.hash p.0) ∙ le-leb s.chunks.start t.range.start p.1

-- ---- the range that holds a term

pub record Holds (s : LinkRange) (t : XorbReconstructionTerm) : Type 0 where
  pub hash : s.hash ≡ t.hash
  pub start : s.chunks.start ≤ t.range.start
  pub order : t.range.start ≤ t.range.end
  pub end : t.range.end ≤ s.chunks.end

and_split : (a b : Bool) → (a && b) ≡ true → (a ≡ true) × (b ≡ true)
and_split true true e = (refl, refl)
and_split true false e = absurd cc
and_split false b e = absurd cc

pub holds_true : (t : XorbReconstructionTerm) (s : LinkRange) → range_holds t s ≡ true → Holds s t
holds_true t s e =
    let first = nat_le s.chunks.start t.range.start in
    let second = nat_le t.range.start t.range.end in
    let third = nat_le t.range.end s.chunks.end in
    let a = and_split (same_hash s.hash t.hash) (first && (second && third)) e in
    let b = and_split first (second && third) a.1 in
    let c = and_split second third b.1 in
    record {
      hash = same-hash s.hash t.hash a.0;
      start = leb-true s.chunks.start t.range.start b.0;
      order = leb-true t.range.start t.range.end c.0;
      end = leb-true t.range.end s.chunks.end c.1;
    }

by_false : (b : Bool) → (b ≡ true → ⊥) → b ≡ false
by_false true h = absurd (h refl)
by_false false h = refl

all_at : {X : Type 0} (P : X → Type 0) (xs : List X) (i : ℕ) (d : X) → AllByRecursion P xs → i < length xs → P (get_or xs i d)
all_at P [] i d p lt = absurd (omega (arith, lt))
all_at P (x ∷ xs) zero d p lt = p.0
all_at P (x ∷ xs) (suc i) d p lt = all_at P xs i d p.1 (omega (arith, lt))

begins_earlier : (x s : LinkRange) (t : XorbReconstructionTerm) → Before x s → HasChunks x → Begins s t → Begins x t
begins_earlier x s t (inl p) some (inl q) = inl (before-trans x.hash s.hash t.hash p q)
begins_earlier x s t (inl p) some (inr q) = inl (subst (λ (h : List ℕ). hash_cmp x.hash h ≡ Less) q.0 p)
begins_earlier x s t (inr p) some (inl q) = inl (subst (λ (h : List ℕ). hash_cmp h t.hash ≡ Less) (sym p.0) q)
begins_earlier x s t (inr p) some (inr q) = inr (p.0 ∙ q.0, omega (arith, p.1, q.1, some))

pub partitioned : (ss : List LinkRange) (t : XorbReconstructionTerm) → InOrder ss → AllByRecursion HasChunks ss → IsPartitionedBy (λ s. begins_by s t) ss
partitioned [] t order some i j d le lt e = absurd (omega (arith, lt))
partitioned (x ∷ ss) t order some zero zero d le lt e = e
partitioned (x ∷ ss) t order some zero (suc j) d le lt e =
    let s = get_or ss j d in
    begins_back x t (begins_earlier x s t (all_at (Before x) ss j d order.0 (omega (arith, lt))) some.0 (begins_true s t e))
partitioned (x ∷ ss) t order some (suc i) zero d le lt e = absurd (omega (arith, le))
partitioned (x ∷ ss) t order some (suc i) (suc j) d le lt e = partitioned ss t order.1 some.1 i j d (omega (arith, le)) (omega (arith, lt)) e

earlier_not : (x s : LinkRange) (t : XorbReconstructionTerm) → Before x s → Begins s t → range_holds t x ≡ true → ⊥
earlier_not x s t (inl p) (inl q) e = let h = holds_true t x e in before-same x.hash t.hash (before-trans x.hash s.hash t.hash p q) h.hash
earlier_not x s t (inl p) (inr q) e = let h = holds_true t x e in before-same x.hash s.hash p (h.hash ∙ sym q.0)
earlier_not x s t (inr p) (inl q) e = let h = holds_true t x e in before-same s.hash t.hash q (sym p.0 ∙ h.hash)
earlier_not x s t (inr p) (inr q) e = let h = holds_true t x e in omega (arith, p.1, q.1, h.end, h.order)

pub holds_begins : (s : LinkRange) (t : XorbReconstructionTerm) → range_holds t s ≡ true → Begins s t
holds_begins s t e = let h = holds_true t s e in inr (h.hash, h.start)

past_not : (s : LinkRange) (t : XorbReconstructionTerm) → begins_by s t ≡ false → range_holds t s ≡ false
past_not s t f = by_false (range_holds t s) (λ e. let b : begins_by s t ≡ true = begins_back s t (holds_begins s t e) in cc)

pub range_past : (ss : List LinkRange) (t : XorbReconstructionTerm) → ((i : ℕ) (d : LinkRange) → i < length ss → begins_by (get_or ss i d) t ≡ false) → range_of ss t ≡ None
range_past [] t h = refl
range_past (x ∷ ss) t h =
    let not_it : range_holds t x ≡ false = past_not x t (h 0 x (omega arith)) in
    rw not_it (range_past ss t (λ i d lt. h (suc i) d (omega (arith, lt))))

pub range_at : (ss : List LinkRange) (t : XorbReconstructionTerm) (n : ℕ) (s : LinkRange) → InOrder ss → n < length ss → s ≡ get_or ss n s → range_holds t s ≡ true → range_of ss t ≡ Some s
range_at [] t n s order lt is e = absurd (omega (arith, lt))
range_at (x ∷ ss) t zero s order lt is e = let same : x ≡ s = sym is in let here : range_holds t x ≡ true = ap (range_holds t) same ∙ e in rw here (ap (λ (y : LinkRange). Some y) same)
range_at (x ∷ ss) t (suc n) s order lt is e =
    let before : Before x s = subst (Before x) (sym is) (all_at (Before x) ss n s order.0 (omega (arith, lt))) in
    let not_it : range_holds t x ≡ false = by_false (range_holds t x) (earlier_not x s t before (holds_begins s t e)) in
    rw not_it (range_at ss t n s order.1 (omega (arith, lt)) is e)

pub range_gap : (ss : List LinkRange) (t : XorbReconstructionTerm) (n : ℕ) (s : LinkRange) → InOrder ss → n < length ss → s ≡ get_or ss n s → begins_by s t ≡ true → range_holds t s ≡ false
    → ((i : ℕ) (d : LinkRange) → n < i → i < length ss → begins_by (get_or ss i d) t ≡ false) → range_of ss t ≡ None
range_gap [] t n s order lt is b f h = absurd (omega (arith, lt))
range_gap (x ∷ ss) t zero s order lt is b f h =
    let not_it : range_holds t x ≡ false = ap (range_holds t) (sym is) ∙ f in
    rw not_it (range_past ss t (λ i d li. h (suc i) d (omega arith) (omega (arith, li))))
range_gap (x ∷ ss) t (suc n) s order lt is b f h =
    let before : Before x s = subst (Before x) (sym is) (all_at (Before x) ss n s order.0 (omega (arith, lt))) in
    let not_it : range_holds t x ≡ false = by_false (range_holds t x) (earlier_not x s t before (begins_true s t b)) in
    rw not_it (range_gap ss t n s order.1 (omega (arith, lt)) is b f (λ i d lo li. h (suc i) d (omega (arith, lo)) (omega (arith, li))))

-- ---- ranges that follow one another are in order

ends_true : (a b : LinkRange) → ends_before a b ≡ true → Before a b
ends_true a b e = of (hash_cmp a.hash b.hash) refl e
  where
    of : (o : Ordering) → hash_cmp a.hash b.hash ≡ o → ends_in o a b ≡ true → Before a b
    of Less is h = inl is
    of Equal is h = inr (equal_same a.hash b.hash is, ltb-true a.chunks.end b.chunks.start h)
    of Greater is h = absurd cc

before_through : (a b c : LinkRange) → Before a b → HasChunks b → Before b c → Before a c
before_through a b c (inl p) some (inl q) = inl (before-trans a.hash b.hash c.hash p q)
before_through a b c (inl p) some (inr q) = inl (subst (λ (h : List ℕ). hash_cmp a.hash h ≡ Less) q.0 p)
before_through a b c (inr p) some (inl q) = inl (subst (λ (h : List ℕ). hash_cmp h c.hash ≡ Less) (sym p.0) q)
before_through a b c (inr p) some (inr q) = inr (p.0 ∙ q.0, omega (arith, p.1, q.1, some))

before_all : (a b : LinkRange) (rs : List LinkRange) → Before a b → HasChunks b → AllByRecursion (Before b) rs → AllByRecursion (Before a) rs
before_all a b [] p some all = tt
before_all a b (r ∷ rs) p some all = (before_through a b r p some all.0, before_all a b rs p some all.1)

-- the ranges behind one are past it, in order, and have chunks
pub record Follow (r : LinkRange) (rs : List LinkRange) : Type 0 where
  pub past : AllByRecursion (Before r) rs
  pub order : InOrder rs
  pub some : AllByRecursion HasChunks rs

follow : (r : LinkRange) (rs : List LinkRange) → in_order_after r rs ≡ true → Follow r rs
follow r [] e = record { past = tt; order = tt; some = tt }
follow r (q ∷ qs) e =
    let both = and_split (ends_before r q && has_chunks q) (in_order_after q qs) e in
    let here = and_split (ends_before r q) (has_chunks q) both.0 in
    let before : Before r q = ends_true r q here.0 in
    let some : HasChunks q = ltb-true q.chunks.start q.chunks.end here.1 in
    let rest = follow q qs both.1 in
    record {
      past = (before, before_all r q qs before some rest.past);
      order = (rest.past, rest.order);
      some = (some, rest.some);
    }

pub ordered : (rs : List LinkRange) → are_in_order rs ≡ true → InOrder rs
ordered [] e = tt
ordered (r ∷ rs) e =
    let both = and_split (has_chunks r) (in_order_after r rs) e in
    let rest = follow r rs both.1 in
    (rest.past, rest.order)

pub nonempty : (rs : List LinkRange) → are_in_order rs ≡ true → AllByRecursion HasChunks rs
nonempty [] e = tt
nonempty (r ∷ rs) e =
    let both = and_split (has_chunks r) (in_order_after r rs) e in
    (ltb-true r.chunks.start r.chunks.end both.0, (follow r rs both.1).some)

pub above_none : (n : ℕ) → (n ≡ 0 → ⊥) → 0 < n
above_none zero h = absurd (h refl)
above_none (suc n) h = omega arith
