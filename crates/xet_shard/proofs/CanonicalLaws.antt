-- The canonical form: how it grows with a listing, its order, and that it is its own.
use Rattle.std.proofs.Common.{◌≡◌, ℕ, suc, ◌+◌, ◌<◌, ◌≤◌, Bool, true, false, cond, List, [], ◌∷◌, ◌++◌, length, map, reverse, take, get_or, Some, None, Ordering, Less, Equal, Greater, refl, sym, ap, subst, ◌∙◌, arith}
use Rattle.std.specs.Prelude.{T, ◌&&◌}
use Rattle.std.specs.List.{AllByRecursion}
use Rattle.std.specs.List.Sorted.{IsStrictlySortedBy}
use Rattle.std.specs.Ordering.{is_lt, is_eq, match_ordering}
use Rattle.std.specs.BTreeMap.{insert_entry}
use Rattle.std.specs.FinMap.{entries, empty, insert, len, contains_key, from_entries, find, put, is_sorted, entries_sorted, entries-insert, len-entries, len-empty, len-insert, get-entries, get-from_entries, from_entries_push}
use Rattle.std.specs.FinMap.Entries.{below_all, by_order}
use Rattle.std.proofs.lemmas.List.{reverse-append, length-reverse, length-map, map_push, take_more}
use Rattle.xet_bytes.proofs.Maps.{hash_exact, hash_total}
use Rattle.xet_types.specs.Names.{hash_cmp}
use Rattle.xet_shard.specs.Listings.{ShardModel}
use Rattle.xet_shard.specs.Canonical.{file_hash_of, xorb_hash_of, under_hashes, last_entries, last_by_hash, canonical_of, IsCanonical}

-- ---- one listing more

insert_is_put : {X : Type 0} (es : List (List ℕ × X)) (k : List ℕ) (x : X) → insert_entry hash_cmp es k x ≡ put hash_cmp k x es
insert_is_put [] k x = refl
insert_is_put {X} (e ∷ es) k x =
    elim (hash_cmp k e.0) as (λ r. match_ordering r ((k, x) ∷ e ∷ es) ((e.0, x) ∷ es) (e ∷ insert_entry hash_cmp es k x) ≡ by_order r ((k, x) ∷ e ∷ es) ((e.0, x) ∷ es) (e ∷ put hash_cmp k x es)) [
      | Less ↦ refl
      | Equal ↦ refl
      | Greater ↦ ap (λ (t : List (List ℕ × X)). e ∷ t) (insert_is_put es k x)
    ]

last_push : {X : Type 0} (hash_of : X → List ℕ) (xs : List X) (x : X) → last_entries hash_of (xs ++ x ∷ []) ≡ insert (last_entries hash_of xs) (hash_of x) x
last_push {X} hash_of xs x =
    let entry : X → List ℕ × X = λ y. (hash_of y, y) in
    let pushed : reverse (under_hashes hash_of (xs ++ x ∷ [])) ≡ entry x ∷ reverse (under_hashes hash_of xs) = ap reverse (map_push entry xs x) ∙ reverse-append (under_hashes hash_of xs) (entry x ∷ []) in
    ap (λ (es : List (List ℕ × X)). from_entries {R = hash_cmp} es) pushed

pub last_more : {X : Type 0} (hash_of : X → List ℕ) (xs : List X) (i : ℕ) (x : X) (es : List (List ℕ × X)) → i < length xs → x ≡ get_or xs i x → es ≡ entries (last_entries hash_of (take i xs))
    → insert_entry hash_cmp es (hash_of x) x ≡ entries (last_entries hash_of (take (i + 1) xs))
last_more {X} hash_of xs i x es lt is so_far =
    let more : take (i + 1) xs ≡ take i xs ++ x ∷ [] = take_more xs i x lt ∙ ap (λ (y : X). take i xs ++ y ∷ []) (sym is) in
    insert_is_put es (hash_of x) x ∙ ap (λ (fs : List (List ℕ × X)). put hash_cmp (hash_of x) x fs) so_far
    ∙ sym (entries-insert hash_total (last_entries hash_of (take i xs)) (hash_of x) x)
    ∙ ap entries (sym (ap (last_entries hash_of) more ∙ last_push hash_of (take i xs) x))

no_length : {A : Type 0} (xs : List A) → length xs ≡ 0 → xs ≡ []
no_length [] e = refl
no_length (x ∷ xs) e = absurd (omega arith)

pub nothing : {X : Type 0} → entries (empty {X = X} {R = hash_cmp}) ≡ []
nothing {X} = no_length _ (sym (len-entries (empty {X = X} {R = hash_cmp})) ∙ len-empty hash_cmp X)

-- ---- not more than are listed

one_more_at_most : (b : Bool) (n k : ℕ) → n ≤ k → cond b n (n + 1) ≤ suc k
one_more_at_most true n k h = omega arith
one_more_at_most false n k h = omega arith

length_from : {X : Type 0} (es : List (List ℕ × X)) → len (from_entries {R = hash_cmp} es) ≤ length es
length_from {X} [] = omega (arith, len-empty hash_cmp X)
length_from (e ∷ es) =
    let m = from_entries {R = hash_cmp} es in
    rw (len-insert hash_total m e.0 e.1) (one_more_at_most (contains_key m e.0) (len m) (length es) (length_from es))

pub length-last_by_hash : {X : Type 0} (hash_of : X → List ℕ) (xs : List X) → length (last_by_hash hash_of xs) ≤ length xs
unfolding last_by_hash
length-last_by_hash {X} hash_of xs =
    let m = last_entries hash_of xs in
    let entry : X → List ℕ × X = λ x. (hash_of x, x) in
    let value : List ℕ × X → X = λ e. e.1 in
    omega (arith, length-map (entries m) value, len-entries m, length_from (reverse (under_hashes hash_of xs)), length-reverse (under_hashes hash_of xs), length-map xs entry)

-- ---- in order

both : (a b : Bool) → T (a && b) → T a × T b
both true b h = (tt, h)
both false b h = absurd h

less : (r : Ordering) → T (is_lt r) → r ≡ Less
less Less h = refl
less Equal h = absurd h
less Greater h = absurd h

keys : {X : Type 0} → List (List ℕ × X) → List (List ℕ)
keys es = map (λ e. e.0) es

below_from_sorted : {X : Type 0} (k : List ℕ) (es : List (List ℕ × X)) → T (below_all hash_cmp k es) → AllByRecursion (λ q. hash_cmp k q ≡ Less) (keys es)
unfolding keys
below_from_sorted k [] h = tt
below_from_sorted k (e ∷ es) h = let p = both (is_lt (hash_cmp k e.0)) (below_all hash_cmp k es) h in (less _ p.0, below_from_sorted k es p.1)

rising_from_sorted : {X : Type 0} (es : List (List ℕ × X)) → T (is_sorted hash_cmp es) → IsStrictlySortedBy hash_cmp (keys es)
unfolding keys IsStrictlySortedBy
rising_from_sorted [] h = tt
rising_from_sorted (e ∷ es) h = let p = both (below_all hash_cmp e.0 es) (is_sorted hash_cmp es) h in (below_from_sorted e.0 es p.0, rising_from_sorted es p.1)

module _ {X : Type 0} (hash_of : X → List ℕ) where
  -- each entry stands under its hash
  IsKeyed : List (List ℕ × X) → Type 0
  IsKeyed es = AllByRecursion (λ e. e.0 ≡ hash_of e.1) es

  IsKeyed-put : (k : List ℕ) (x : X) (es : List (List ℕ × X)) → k ≡ hash_of x → IsKeyed es → IsKeyed (put hash_cmp k x es)
  unfolding IsKeyed
  IsKeyed-put k x [] is h = (is, tt)
  IsKeyed-put k x (e ∷ es) is h =
      elim (hash_cmp k e.0) as (λ r. hash_cmp k e.0 ≡ r → IsKeyed (by_order r ((k, x) ∷ e ∷ es) ((e.0, x) ∷ es) (e ∷ put hash_cmp k x es))) [
        | Less ↦ λ p. (is, h)
        | Equal ↦ λ p. (sym (hash_exact k e.0 p) ∙ is, h.1)
        | Greater ↦ λ p. (h.0, IsKeyed-put k x es is h.1)
      ] refl

  IsKeyed-from : (es : List (List ℕ × X)) → IsKeyed es → IsKeyed (entries (from_entries {R = hash_cmp} es))
  unfolding IsKeyed
  IsKeyed-from [] h = subst IsKeyed (sym nothing) tt
  IsKeyed-from (e ∷ es) h =
      let m = from_entries {R = hash_cmp} es in
      subst IsKeyed (sym (entries-insert hash_total m e.0 e.1)) (IsKeyed-put e.0 e.1 (entries m) h.0 (IsKeyed-from es h.1))

  IsKeyed-append : (es fs : List (List ℕ × X)) → IsKeyed es → IsKeyed fs → IsKeyed (es ++ fs)
  unfolding IsKeyed
  IsKeyed-append [] fs g h = h
  IsKeyed-append (e ∷ es) fs g h = (g.0, IsKeyed-append es fs g.1 h)

  IsKeyed-reverse : (xs : List X) → IsKeyed (reverse (under_hashes hash_of xs))
  unfolding IsKeyed
  IsKeyed-reverse [] = tt
  IsKeyed-reverse (x ∷ xs) =
      let entry : X → List ℕ × X = λ y. (hash_of y, y) in
      subst IsKeyed (sym (reverse-append (entry x ∷ []) (under_hashes hash_of xs))) (IsKeyed-append (reverse (under_hashes hash_of xs)) (entry x ∷ []) (IsKeyed-reverse xs) (refl, tt))

  keys_are_hashes : (es : List (List ℕ × X)) → IsKeyed es → map hash_of (map (λ e. e.1) es) ≡ keys es
  unfolding IsKeyed keys
  keys_are_hashes [] h = refl
  keys_are_hashes (e ∷ es) h = λ i. (sym h.0) i ∷ keys_are_hashes es h.1 i

  pub last_by_hash-rises : (xs : List X) → IsStrictlySortedBy hash_cmp (map hash_of (last_by_hash hash_of xs))
  unfolding last_by_hash
  last_by_hash-rises xs =
      let m = last_entries hash_of xs in
      subst (IsStrictlySortedBy hash_cmp) (sym (keys_are_hashes (entries m) (IsKeyed-from _ (IsKeyed-reverse xs)))) (rising_from_sorted (entries m) (entries_sorted m))

  entries_are_under : (es : List (List ℕ × X)) → IsKeyed es → under_hashes hash_of (map (λ e. e.1) es) ≡ es
  unfolding IsKeyed
  entries_are_under [] h = refl
  entries_are_under (e ∷ es) h = λ i. ((sym h.0) i, e.1) ∷ entries_are_under es h.1 i

  -- at each hash, the last entry with it among all: the first from the back
  pub last_by_hash-finds : (xs : List X) (q : List ℕ) → find hash_cmp q (under_hashes hash_of (last_by_hash hash_of xs)) ≡ find hash_cmp q (reverse (under_hashes hash_of xs))
  unfolding last_by_hash
  last_by_hash-finds xs q =
      let m = last_entries hash_of xs in
      ap (find hash_cmp q) (entries_are_under (entries m) (IsKeyed-from _ (IsKeyed-reverse xs))) ∙ sym (get-entries m q) ∙ get-from_entries hash_total (reverse (under_hashes hash_of xs)) q

-- ---- a list in order is as it was

put_first : {X : Type 0} (k : List ℕ) (x : X) (es : List (List ℕ × X)) → AllByRecursion (λ q. hash_cmp k q ≡ Less) (keys es) → put hash_cmp k x es ≡ (k, x) ∷ es
unfolding keys
put_first k x [] h = refl
put_first {X} k x (e ∷ es) h = ap (λ r. by_order r ((k, x) ∷ e ∷ es) ((e.0, x) ∷ es) (e ∷ put hash_cmp k x es)) h.0

missing : {X : Type 0} (k : List ℕ) (es : List (List ℕ × X)) → AllByRecursion (λ q. hash_cmp k q ≡ Less) (keys es) → find hash_cmp k es ≡ None
unfolding keys
missing k [] h = refl
missing k (e ∷ es) h = ap (λ r. cond (is_eq r) (Some e.1) (find hash_cmp k es)) h.0 ∙ missing k es h.1

entries_again : {X : Type 0} (es : List (List ℕ × X)) → IsStrictlySortedBy hash_cmp (keys es) → entries (from_entries {R = hash_cmp} (reverse es)) ≡ es
unfolding keys IsStrictlySortedBy
entries_again [] h = nothing
entries_again {X} (e ∷ es) h =
    let m = from_entries {R = hash_cmp} (reverse es) in
    let before : entries m ≡ es = entries_again es h.1 in
    let absent : find hash_cmp e.0 (reverse es) ≡ None = sym (get-from_entries hash_total (reverse es) e.0) ∙ get-entries m e.0 ∙ ap (find hash_cmp e.0) before ∙ missing e.0 es h.0 in
    ap (λ (fs : List (List ℕ × X)). entries (from_entries {R = hash_cmp} fs)) (reverse-append (e ∷ []) es)
    ∙ ap entries (from_entries_push hash_total hash_exact (reverse es) e.0 e.1 absent)
    ∙ entries-insert hash_total m e.0 e.1 ∙ ap (put hash_cmp e.0 e.1) before ∙ put_first e.0 e.1 es h.0

keys_under : {X : Type 0} (hash_of : X → List ℕ) (xs : List X) → keys (under_hashes hash_of xs) ≡ map hash_of xs
unfolding keys
keys_under hash_of [] = refl
keys_under hash_of (x ∷ xs) = ap (λ (ks : List (List ℕ)). hash_of x ∷ ks) (keys_under hash_of xs)

values_under : {X : Type 0} (hash_of : X → List ℕ) (xs : List X) → map (λ e. e.1) (under_hashes hash_of xs) ≡ xs
values_under hash_of [] = refl
values_under {X} hash_of (x ∷ xs) = ap (λ (ys : List X). x ∷ ys) (values_under hash_of xs)

pub last_by_hash-again : {X : Type 0} (hash_of : X → List ℕ) (xs : List X) → IsStrictlySortedBy hash_cmp (map hash_of xs) → last_by_hash hash_of xs ≡ xs
unfolding last_by_hash
last_by_hash-again {X} hash_of xs h =
    let value : List ℕ × X → X = λ e. e.1 in
    ap (map value) (entries_again (under_hashes hash_of xs) (subst (IsStrictlySortedBy hash_cmp) (sym (keys_under hash_of xs)) h)) ∙ values_under hash_of xs

-- ---- shards

pub IsCanonical-canonical_of : (s : ShardModel) → IsCanonical (canonical_of s)
IsCanonical-canonical_of s = record {
  no_expiry = refl;
  files = last_by_hash-rises file_hash_of s.files;
  xorbs = last_by_hash-rises xorb_hash_of s.xorbs;
}

-- the canonical form of a canonical shard is the shard itself
pub canonical_of-again : (s : ShardModel) → IsCanonical s → canonical_of s ≡ s
canonical_of-again s h =
    let files = last_by_hash-again file_hash_of s.files h.files in
    let xorbs = last_by_hash-again xorb_hash_of s.xorbs h.xorbs in
    λ i. record { expiry = (sym h.no_expiry) i; files = files i; xorbs = xorbs i }
