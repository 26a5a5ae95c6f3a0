-- The last number of each hash.
use Rattle.std.proofs.Common.{arith, cond, Ordering, ◌≡◌, ◌∙◌, ℕ, suc, ◌<◌, ◌≤◌, ◌+◌, ◌^◌, List, Option, Some, None, true, false, inl, inr, refl, sym, ap, subst}
use Rattle.std.specs.Prelude.{Result, Ok, Err, OnOk, OnErr}
use Rattle.std.proofs.lemmas.Bool.{cases_lt, leb-true, leb-false}
use Rattle.std.specs.Ordering.{is_eq}
use Rattle.std.specs.declared.cmp.Ordering.TheVariants.{Less, Equal, Greater}
use Rattle.std.specs.BTreeMap.{is_at}
use Rattle.std.specs.Cmp.{IsTotalOrder}
use Rattle.std.specs.FinMap.{FinMap, IsAntisymmetric, get, insert, remove, empty, get-empty, get-insert, get-remove, same_map}
use Rattle.std.proofs.lemmas.Cmp.{tied_itself}
use Rattle.xet_types.specs.Names.{hash_cmp}
use Rattle.xet_bytes.specs.Pairs.{Pair, pair_cmp, IsLastBelow, IsLast, Notes, KnowsLast, KnowsLastBut, is_at_end}
use Rattle.xet_bytes.proofs.Maps.{hash_exact, hash_total}
use Rattle.xet_bytes.proofs.Pairs.{pair_total, pair_exact}

-- ---- one key and the others

module _ {K : Type 0} (R : K → K → Ordering) (whole : IsTotalOrder R) (exact : IsAntisymmetric R) where
  pub at_itself : (k : K) → is_at (R k) k ≡ true
  at_itself k = ap is_eq (tied_itself whole k)

  pub apart : (q k : K) → (q ≡ k → ⊥) → is_at (R q) k ≡ false
  apart q k other =
      elim (R q k) as (λ r. R q k ≡ r → is_eq r ≡ false) [
        | Less ↦ λ e. refl
        | Equal ↦ λ e. absurd (other (exact q k e))
        | Greater ↦ λ e. refl
      ] refl

module _ {K X : Type 0} (R : K → K → Ordering) (whole : IsTotalOrder R) (exact : IsAntisymmetric R) where
  pub put_here : (m : FinMap R X) (k : K) (x : X) → get (insert m k x) k ≡ Some x
  put_here m k x = get-insert whole m k x k ∙ ap (λ b. cond b (Some x) (get m k)) (at_itself R whole exact k)

  pub put_elsewhere : (m : FinMap R X) (k : K) (x : X) (q : K) → (q ≡ k → ⊥) → get (insert m k x) q ≡ get m q
  put_elsewhere m k x q other = get-insert whole m k x q ∙ ap (λ b. cond b (Some x) (get m q)) (apart R whole exact q k other)

  pub gone_here : (m : FinMap R X) (k : K) → get (remove m k) k ≡ None
  gone_here m k = get-remove whole m k k ∙ ap (λ b. cond b None (get m k)) (at_itself R whole exact k)

  pub gone_elsewhere : (m : FinMap R X) (k q : K) → (q ≡ k → ⊥) → get (remove m k) q ≡ get m q
  gone_elsewhere m k q other = get-remove whole m k q ∙ ap (λ b. cond b None (get m q)) (apart R whole exact q k other)

  -- a key that is put and taken out again
  pub put_and_gone : (m : FinMap R X) (k : K) (x : X) → get m k ≡ None → remove (insert m k x) k ≡ m
  put_and_gone m k x absent = same_map whole exact _ _ (λ q.
      elim (R q k) as (λ r. R q k ≡ r → get (remove (insert m k x) k) q ≡ get m q) [
        | Less ↦ λ e. away q (λ i. (let turned : Less ≡ Equal = sym e ∙ ap (R q) (sym i) ∙ tied_itself whole q in let no : ⊥ = cc in absurd no))
        | Equal ↦ λ e. (let is : q ≡ k = exact q k e in ap (get (remove (insert m k x) k)) is ∙ gone_here (insert m k x) k ∙ sym (ap (get m) is ∙ absent))
        | Greater ↦ λ e. away q (λ i. (let turned : Greater ≡ Equal = sym e ∙ ap (R q) (sym i) ∙ tied_itself whole q in let no : ⊥ = cc in absurd no))
      ] refl)
    where
      away : (q : K) → (q ≡ k → ⊥) → get (remove (insert m k x) k) q ≡ get m q
      away q other = gone_elsewhere (insert m k x) k q other ∙ put_elsewhere m k x q other

at_or_under : (P : ℕ → Type 0) (end n : ℕ) → P end → (n < end → P n) → n < suc end → P n
at_or_under P end n at under upto =
    elim (cases_lt n end) as (λ w. P n) [
      | inl below ↦ under below
      | inr from ↦ subst P (omega (arith, from, upto)) at
    ]

-- ---- the last number of one hash

module _ {V : Type 0} (m : FinMap pair_cmp V) (h : List ℕ) where
  -- a value at the greatest number of 64 bits
  pub last_at_end : (v : V) → get m (h, 18446744073709551615) ≡ Some v → IsLast m h (Some (18446744073709551615, v))
  last_at_end v here = (omega arith, here, λ n from upto. absurd (omega (arith, from, upto)))

  -- no value there
  pub last_under : (noted : Option (ℕ × V)) → get m (h, 18446744073709551615) ≡ None → IsLastBelow m h 18446744073709551615 noted → IsLast m h noted
  last_under None none under = λ n from upto. at_or_under (λ n. get m (h, n) ≡ None) 18446744073709551615 n none (λ below. under n from below) upto
  last_under (Some p) none under = (
    omega (arith, under.0),
    under.1,
    λ n from upto. at_or_under (λ n. get m (h, n) ≡ None) 18446744073709551615 n none (λ below. under.2 n from below) upto,
  )

  -- what is noted answers below each end behind it
  pub last_in_reach : (p : ℕ × V) (end : ℕ) → IsLast m h (Some p) → p.0 < end → end < 2 ^ 64 → IsLastBelow m h end (Some p)
  last_in_reach p end last within few = (within, last.1, λ n from upto. last.2 n from (omega (arith, upto, few)))

  pub last_nowhere : (end : ℕ) → IsLast m h None → end < 2 ^ 64 → IsLastBelow m h end None
  last_nowhere end last few = λ n from upto. last n from (omega (arith, upto, few))

below_itself : (k : ℕ) → k < k → ⊥
below_itself k l = omega (arith, l)

abbrev pair : List ℕ → ℕ → Pair
pair h n = (h, n)

other_number : (h : List ℕ) (n k : ℕ) → (n ≡ k → ⊥) → pair h n ≡ pair h k → ⊥
other_number h n k other same = other (ap (λ (q : Pair). q.1) same)

other_hash : (h g : List ℕ) (n k : ℕ) → (g ≡ h → ⊥) → pair g n ≡ pair h k → ⊥
other_hash h g n k other same = other (ap (λ (q : Pair). q.0) same)

-- what is last of a hash stays so in a map that has the same at its numbers
stays_last : {V : Type 0} (m m' : FinMap pair_cmp V) (h : List ℕ) → ((n : ℕ) → get m' (h, n) ≡ get m (h, n)) → (noted : Option (ℕ × V)) → IsLast m h noted → IsLast m' h noted
stays_last m m' h same None last = λ n from upto. same n ∙ last n from upto
stays_last m m' h same (Some p) last = (last.0, same p.0 ∙ last.1, λ n from upto. same n ∙ last.2 n from upto)

-- ---- the notes

module _ {V : Type 0} (m : FinMap pair_cmp V) (notes : Notes V) where
  pub nothing_known : m ≡ empty → notes ≡ empty → KnowsLast m notes
  nothing_known none no_notes = subst (λ (m : FinMap pair_cmp V). KnowsLast m notes) (sym none) (subst (λ (notes : Notes V). KnowsLast empty notes) (sym no_notes) (λ hash. subst (IsLast empty hash) (sym (get-empty hash_cmp hash)) (λ n from upto. get-empty pair_cmp (hash, n))))

  -- the note of one hash is made anew
  pub known : (h : List ℕ) (noted : Notes V) → KnowsLastBut m notes h → IsLast m h (get noted h) → ((g : List ℕ) → (g ≡ h → ⊥) → get noted g ≡ get notes g) → KnowsLast m noted
  known h noted others here same g =
      elim (hash_cmp g h) as (λ r. hash_cmp g h ≡ r → IsLast m g (get noted g)) [
        | Less ↦ λ e. away (λ i. (let turned : Less ≡ Equal = sym e ∙ ap (hash_cmp g) (sym i) ∙ tied_itself hash_total g in let no : ⊥ = cc in absurd no))
        | Equal ↦ λ e. subst (λ h. IsLast m h (get noted h)) (sym (hash_exact g h e)) here
        | Greater ↦ λ e. away (λ i. (let turned : Greater ≡ Equal = sym e ∙ ap (hash_cmp g) (sym i) ∙ tied_itself hash_total g in let no : ⊥ = cc in absurd no))
      ] refl
    where
      away : (g ≡ h → ⊥) → IsLast m g (get noted g)
      away other = subst (IsLast m g) (sym (same g other)) (others g other)

  pub known_put : (h : List ℕ) (p : ℕ × V) → KnowsLastBut m notes h → IsLast m h (Some p) → KnowsLast m (insert notes h p)
  known_put h p others here = known h (insert notes h p) others (subst (IsLast m h) (sym (put_here hash_cmp hash_total hash_exact notes h p)) here) (λ g other. put_elsewhere hash_cmp hash_total hash_exact notes h p g other)

  pub known_gone : (h : List ℕ) → KnowsLastBut m notes h → IsLast m h None → KnowsLast m (remove notes h)
  known_gone h others here = known h (remove notes h) others (subst (IsLast m h) (sym (gone_here hash_cmp hash_total hash_exact notes h)) here) (λ g other. gone_elsewhere hash_cmp hash_total hash_exact notes h g other)

  -- a hash that has a last number has a note
  pub has_note : (h : List ℕ) (p : ℕ × V) → IsLast m h (Some p) → IsLast m h None → ⊥
  has_note h p last none = (let here : Some p.1 ≡ None = sym last.1 ∙ none p.0 (omega arith) last.0 in let no : ⊥ = cc in no)

  pub noted_anew : {A E : Type 0} (answer : Result A E) (h : List ℕ) (p : ℕ × V) (after : Notes V) → KnowsLastBut m notes h → (get notes h ≡ None → IsLast m h None) → IsLast m h (Some p) → OnOk answer (after ≡ insert notes h p) → OnErr answer (get notes h ≡ None) → KnowsLast m after
  noted_anew (Ok v) h p after others absent here done failed = subst (KnowsLast m) (sym done) (known_put h p others here)
  noted_anew (Err e) h p after others absent here done failed = absurd (has_note h p here (absent failed))

-- ---- a value is put, or taken out

module _ {V : Type 0} (m : FinMap pair_cmp V) (notes : Notes V) where
  pub others_put : (h : List ℕ) (k : ℕ) (v : V) → KnowsLast m notes → KnowsLastBut (insert m (h, k) v) notes h
  others_put h k v all g other = stays_last m (insert m (h, k) v) g (λ n. put_elsewhere pair_cmp pair_total pair_exact m (h, k) v (g, n) (other_hash h g n k other)) (get notes g) (all g)

  -- below the noted number
  pub put_below : (h : List ℕ) (k : ℕ) (v : V) → KnowsLast m notes → is_at_end (get notes h) k ≡ false → KnowsLast (insert m (h, k) v) notes
  put_below h k v all under = known (insert m (h, k) v) notes h notes (others_put h k v all) (by (get notes h) (all h) under) (λ g other. refl)
    where
      by : (noted : Option (ℕ × V)) → IsLast m h noted → is_at_end noted k ≡ false → IsLast (insert m (h, k) v) h noted
      by None last under = (let no : ⊥ = cc in absurd no)
      by (Some p) last under = (
        last.0,
        put_elsewhere pair_cmp pair_total pair_exact m (h, k) v (h, p.0) (other_number h p.0 k (λ same. below_itself k (subst (λ n. k < n) same (leb-false p.0 k under)))) ∙ last.1,
        λ n from upto. put_elsewhere pair_cmp pair_total pair_exact m (h, k) v (h, n) (other_number h n k (λ same. below_itself k (omega (arith, from, same, leb-false p.0 k under)))) ∙ last.2 n from upto,
      )

  -- at the noted number or above it
  pub put_last : (h : List ℕ) (k : ℕ) (v : V) → KnowsLast m notes → is_at_end (get notes h) k ≡ true → k < 2 ^ 64 → KnowsLast (insert m (h, k) v) (insert notes h (k, v))
  put_last h k v all above few = known_put (insert m (h, k) v) notes h (k, v) (others_put h k v all) (
    few,
    put_here pair_cmp pair_total pair_exact m (h, k) v,
    λ n from upto. put_elsewhere pair_cmp pair_total pair_exact m (h, k) v (h, n) (other_number h n k (λ same. below_itself k (omega (arith, from, same)))) ∙ by (get notes h) (all h) above n from upto,
  )
    where
      by : (noted : Option (ℕ × V)) → IsLast m h noted → is_at_end noted k ≡ true → (n : ℕ) → k + 1 ≤ n → n < 2 ^ 64 → get m (h, n) ≡ None
      by None last above n from upto = last n (omega arith) upto
      by (Some p) last above n from upto = last.2 n (omega (arith, from, leb-true p.0 k above)) upto

  -- a hash without a note has no values
  pub no_note : (h : List ℕ) (k : ℕ) → KnowsLast m notes → get notes h ≡ None → k < 2 ^ 64 → get m (h, k) ≡ None
  no_note h k all none few = (let last : IsLast m h None = subst (IsLast m h) none (all h) in last k (omega arith) few)

  pub others_gone : (h : List ℕ) (k : ℕ) → KnowsLast m notes → KnowsLastBut (remove m (h, k)) notes h
  others_gone h k all g other = stays_last m (remove m (h, k)) g (λ n. gone_elsewhere pair_cmp pair_total pair_exact m (h, k) (g, n) (other_hash h g n k other)) (get notes g) (all g)

  pub still_none : (h : List ℕ) (k : ℕ) → KnowsLast m notes → get notes h ≡ None → IsLast (remove m (h, k)) h None
  still_none h k all none n from upto =
      get-remove pair_total m (h, k) (h, n)
      ∙ ap (cond (is_at (pair_cmp (h, n)) (h, k)) None) (no_note h n all none upto)
      ∙ elim (is_at (pair_cmp (h, n)) (h, k)) as (λ b. cond {A = Option V} b None None ≡ None) [ true ↦ refl | false ↦ refl ]

  -- a new note that was refused, after which the value is taken out again
  pub taken_back : (h : List ℕ) (k : ℕ) (v : V) → KnowsLast m notes → get notes h ≡ None → k < 2 ^ 64 → remove (insert m (h, k) v) (h, k) ≡ m
  taken_back h k v all none few = put_and_gone pair_cmp pair_total pair_exact m (h, k) v (no_note h k all none few)
