-- The order of pairs of a hash and a number.
use Rattle.std.proofs.Common.{rules, arith, ◌≡◌, ◌∙◌, ℕ, ◌<◌, List, Option, Some, None, false, refl, sym, ap, subst}
use Rattle.std.specs.Bool.{⊤}
use Rattle.std.specs.Option.{IsSome}
use Rattle.std.specs.Ordering.{nat_cmp, is_lt, ordering_then}
use Rattle.std.specs.Map.{lookup}
use Rattle.std.specs.BTreeMap.{is_at}
use Rattle.std.proofs.lemmas.Cmp.{tied_itself}
use Rattle.std.specs.declared.cmp.Ordering.TheVariants.{Less, Equal, Greater}
use Rattle.std.specs.Cmp.{IsTotalOrder, then_total, on_total, nat_cmp_total, ranked}
use Rattle.std.specs.FinMap.{FinMap, IsAntisymmetric, get, from_entries, nat_cmp-IsAntisymmetric}
use Rattle.xet_types.specs.Names.{hash_cmp}
use Rattle.xet_bytes.specs.Pairs.{Pair, pair_cmp, IsLastBelow, TwoHashes, hashes_cmp}
use Rattle.xet_bytes.proofs.Maps.{get_is, hash_exact, hash_total}

pub pair_total : IsTotalOrder pair_cmp
pair_total = then_total (on_total (λ (t : Pair). t.0) hash_total) (on_total (λ (t : Pair). t.1) nat_cmp_total)

pub pair_exact : IsAntisymmetric pair_cmp
pair_exact x y e =
    elim (hash_cmp x.0 y.0) as (λ r. hash_cmp x.0 y.0 ≡ r → ordering_then r (nat_cmp x.1 y.1) ≡ Equal → x ≡ y) [
      | Less ↦ λ p q. absurd cc
      | Equal ↦ λ p q i. (hash_exact x.0 y.0 p i, nat_cmp-IsAntisymmetric x.1 y.1 q i)
      | Greater ↦ λ p q. absurd cc
    ] refl e

pub hashes_total : IsTotalOrder hashes_cmp
hashes_total = then_total (on_total (λ (t : TwoHashes). t.0) hash_total) (on_total (λ (t : TwoHashes). t.1) hash_total)

pub hashes_exact : IsAntisymmetric hashes_cmp
hashes_exact x y e =
    elim (hash_cmp x.0 y.0) as (λ r. hash_cmp x.0 y.0 ≡ r → ordering_then r (hash_cmp x.1 y.1) ≡ Equal → x ≡ y) [
      | Less ↦ λ p q. absurd cc
      | Equal ↦ λ p q i. (hash_exact x.0 y.0 p i, hash_exact x.1 y.1 q i)
      | Greater ↦ λ p q. absurd cc
    ] refl e

-- ---- the pairs of one hash, below an end

-- the numbers decide between pairs of one hash
by_number : (h : List ℕ) (m n : ℕ) → pair_cmp (h, m) (h, n) ≡ nat_cmp m n
by_number h m n = ap (λ r. ordering_then r (nat_cmp m n)) (tied_itself hash_total h)

less_number : (m n : ℕ) → m < n → nat_cmp m n ≡ Less
less_number m n l = search (rules, l)

below_pair : (h : List ℕ) (m n : ℕ) → m < n → pair_cmp (h, m) (h, n) ≡ Less
below_pair h m n l = by_number h m n ∙ less_number m n l

-- a pair from one of a hash on and below another of it is of that hash
within_hash : (h : List ℕ) (n end : ℕ) (q : Pair) → is_lt (pair_cmp q (h, n)) ≡ false → pair_cmp q (h, end) ≡ Less → q.0 ≡ h
within_hash h n end q from upto =
    elim (hash_cmp q.0 h) as (λ r. hash_cmp q.0 h ≡ r → is_lt (ordering_then r (nat_cmp q.1 n)) ≡ false → ordering_then r (nat_cmp q.1 end) ≡ Less → q.0 ≡ h) [
      | Less ↦ λ p f u. (let no : ⊥ = cc in absurd no)
      | Equal ↦ λ p f u. hash_exact q.0 h p
      | Greater ↦ λ p f u. (let no : ⊥ = cc in absurd no)
    ] refl from upto

module _ {V : Type 0} (es : List (Pair × V)) (m : FinMap pair_cmp V) (is : from_entries {R = pair_cmp} es ≡ m) (h : List ℕ) (end : ℕ) where
  look : Pair → Option V
  look q = lookup (is_at (pair_cmp q)) es

  -- no entry below the end is above this one
  abbrev IsGreatest : Pair → Type 0
  IsGreatest key = (q : Pair) → ⊤ × (pair_cmp q (h, end) ≡ Less) → IsSome (lookup (is_at (pair_cmp q)) es) → is_lt (pair_cmp key q) ≡ false

  found_at : (q : Pair) → get m q ≡ look q
  unfolding look
  found_at q = ap (λ (m : FinMap pair_cmp V). get m q) (sym is) ∙ get_is pair_cmp pair_total pair_exact es q

  pub last_none : ((q : Pair) → ⊤ × (pair_cmp q (h, end) ≡ Less) → lookup (is_at (pair_cmp q)) es ≡ None) → IsLastBelow m h end None
  unfolding look
  last_none none n from upto = found_at (h, n) ∙ none (h, n) (tt, below_pair h n end upto)

  -- what lies above the greatest entry isn't there
  none_above : (key : Pair) (n : ℕ) → n < end → IsGreatest key → (is_lt (pair_cmp key (h, n)) ≡ false → ⊥) → get m (h, n) ≡ None
  unfolding look
  none_above key n upto greatest above = found_at (h, n) ∙ by (look (h, n)) refl
    where
      by : (o : Option V) → look (h, n) ≡ o → look (h, n) ≡ None
      by None e = e
      by (Some v) e = absurd (above (greatest (h, n) (tt, below_pair h n end upto) (subst IsSome (sym e) refl)))

  pub last_other : (key : Pair) → pair_cmp key (h, end) ≡ Less → IsGreatest key → (key.0 ≡ h → ⊥) → IsLastBelow m h end None
  last_other key upto greatest other n from below = none_above key n below greatest (λ at_least. other (within_hash h n end key at_least upto))

  pub last_some : (key : Pair) (v : V) → pair_cmp key (h, end) ≡ Less → lookup (is_at (pair_cmp key)) es ≡ Some v → IsGreatest key → key.0 ≡ h → IsLastBelow m h end (Some (key.1, v))
  unfolding look
  last_some key v upto here greatest same = (
    ranked key.1 end Less (sym (sym (by_number h key.1 end) ∙ ap (λ g. pair_cmp (g, key.1) (h, end)) (sym same) ∙ upto)),
    ap (λ g. get m (g, key.1)) (sym same) ∙ found_at key ∙ here,
    λ n from below. none_above key n below greatest (λ at_least.
        (let under : pair_cmp key (h, n) ≡ Less = ap (λ g. pair_cmp (g, key.1) (h, n)) same ∙ below_pair h key.1 n (omega (arith, from)) in
        let turned : is_lt Less ≡ false = subst (λ r. is_lt r ≡ false) under at_least in
        let no : ⊥ = cc in no)),
  )
