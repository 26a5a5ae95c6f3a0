-- The greatest ends of seeds.
use Rattle.std.proofs.Common.{◌≡◌, ◌∙◌, ℕ, ◌==◌, ◌||◌, max, cond, Bool, true, false, List, [], ◌∷◌, length, map, Option, Some, None, Ordering, Less, Equal, Greater, refl, sym, ap, arith, inl, inr}
use Rattle.std.specs.List.{fold, AllByRecursion}
use Rattle.std.specs.Option.{unwrap_or}
use Rattle.std.specs.Ordering.{nat_cmp, is_eq, match_ordering}
use Rattle.std.specs.Cmp.{ranked, nat_cmp_is}
use Rattle.std.specs.Map.{lookup}
use Rattle.std.specs.BTreeMap.{is_at, insert_entry}
use Rattle.std.specs.FinMap.{FinMap, entries, empty, insert, find, get, put, from_entries, entries-insert, len-entries, len-empty, get-entries, get-empty, get-insert, get-from_entries, same_map, nat_cmp-IsAntisymmetric}
use Rattle.std.specs.FinMap.Entries.{by_order}
use Rattle.std.proofs.lemmas.Cmp.{nat_cmp_total}
use Rattle.std.proofs.lemmas.Bool.{eqb-true, eq-eqb}
use Rattle.std.proofs.lemmas.Bool.Decides.{eqb_tells}
use Rattle.xet_generated.specs.Terms.{Term, greatest_end, ends_of}

-- ---- numbers

not_equal : (a b : ℕ) → (b ≡ a → ⊥) → (r : Ordering) → r ≡ nat_cmp a b → is_eq r ≡ false
not_equal a b differ Less e = refl
not_equal a b differ Equal e = absurd (differ (sym (ranked a b Equal e)))
not_equal a b differ Greater e = refl

pub at_is : (a b : ℕ) → is_at (nat_cmp a) b ≡ (b == a)
at_is a b =
    elim (eqb_tells b a) [
      | inl w ↦ ap is_eq (sym (nat_cmp_is a b Equal (sym w.1))) ∙ sym w.0
      | inr w ↦ not_equal a b w.1 (nat_cmp a b) refl ∙ sym w.0
    ]

-- ---- ends so far

abbrev pub with_end : FinMap nat_cmp ℕ → Term → FinMap nat_cmp ℕ
with_end m t = insert m t.0 (max t.1.1 (unwrap_or (get m t.0) 0))

abbrev pub so_far : List Term → FinMap nat_cmp ℕ
so_far terms = fold with_end empty terms

insert_is_put : (es : List (ℕ × ℕ)) (k x : ℕ) → insert_entry nat_cmp es k x ≡ put nat_cmp k x es
insert_is_put [] k x = refl
insert_is_put (e ∷ es) k x =
    elim (nat_cmp k e.0) as (λ r. match_ordering r ((k, x) ∷ e ∷ es) ((e.0, x) ∷ es) (e ∷ insert_entry nat_cmp es k x) ≡ by_order r ((k, x) ∷ e ∷ es) ((e.0, x) ∷ es) (e ∷ put nat_cmp k x es)) [
      | Less ↦ refl
      | Equal ↦ refl
      | Greater ↦ ap (λ (t : List (ℕ × ℕ)). e ∷ t) (insert_is_put es k x)
    ]

find_is : (es : List (ℕ × ℕ)) (q : ℕ) → find nat_cmp q es ≡ lookup (is_at (nat_cmp q)) es
find_is [] q = refl
find_is (e ∷ es) q = ap (cond (is_at (nat_cmp q) e.0) (Some e.1)) (find_is es q)

pub found : (m : FinMap nat_cmp ℕ) (q : ℕ) → lookup (is_at (nat_cmp q)) (entries m) ≡ get m q
found m q = sym (get-entries m q ∙ find_is (entries m) q)

-- one term more
pub one_more : (m : FinMap nat_cmp ℕ) (es : List (ℕ × ℕ)) (t : Term) (end : ℕ) → es ≡ entries m → end ≡ max t.1.1 (unwrap_or (lookup (is_at (nat_cmp t.0)) es) 0) → insert_entry nat_cmp es t.0 end ≡ entries (with_end m t)
one_more m es t end is greatest =
    let now : end ≡ max t.1.1 (unwrap_or (get m t.0) 0) = greatest ∙ ap (λ (fs : List (ℕ × ℕ)). max t.1.1 (unwrap_or (lookup (is_at (nat_cmp t.0)) fs) 0)) is ∙ ap (λ (o : Option ℕ). max t.1.1 (unwrap_or o 0)) (found m t.0) in
    ap (insert_entry nat_cmp es t.0) now ∙ insert_is_put es t.0 (max t.1.1 (unwrap_or (get m t.0) 0)) ∙ ap (put nat_cmp t.0 (max t.1.1 (unwrap_or (get m t.0) 0))) is
    ∙ sym (entries-insert nat_cmp_total m t.0 (max t.1.1 (unwrap_or (get m t.0) 0)))

no_length : {A : Type 0} (xs : List A) → length xs ≡ 0 → xs ≡ []
no_length [] e = refl
no_length (x ∷ xs) e = absurd (omega arith)

pub nothing : entries (empty {X = ℕ} {R = nat_cmp}) ≡ []
nothing = no_length _ (sym (len-entries (empty {X = ℕ} {R = nat_cmp})) ∙ len-empty nat_cmp ℕ)

-- ---- all ends

-- whether a term has the seed
pub names : List Term → ℕ → Bool
names [] q = false
names (t ∷ ts) q = (t.0 == q) || names ts q

reached : Option ℕ → List Term → ℕ → Option ℕ
reached o ts q = cond (names ts q) (Some (max (unwrap_or o 0) (greatest_end ts q))) o

unnamed : (ts : List Term) (q : ℕ) → names ts q ≡ false → greatest_end ts q ≡ 0
unfolding names
unnamed [] q e = refl
unnamed (t ∷ ts) q e =
    elim (t.0 == q) as (λ b. b || names ts q ≡ false → cond b (max t.1.1 (greatest_end ts q)) (greatest_end ts q) ≡ 0) [
      | true ↦ λ h. let no : ⊥ = cc in absurd no
      | false ↦ λ h. unnamed ts q h
    ] e

step : (t : Term) (ts : List Term) (q : ℕ) (o p : Option ℕ) (b n : Bool) → (b ≡ true → p ≡ o) → n ≡ names ts q
    → cond n (Some (max (unwrap_or (cond b (Some (max t.1.1 (unwrap_or p 0))) o) 0) (greatest_end ts q))) (cond b (Some (max t.1.1 (unwrap_or p 0))) o)
    ≡ cond (b || n) (Some (max (unwrap_or o 0) (cond b (max t.1.1 (greatest_end ts q)) (greatest_end ts q)))) o
step t ts q o p true true same is = ap (λ (r : Option ℕ). Some (max (max t.1.1 (unwrap_or r 0)) (greatest_end ts q))) (same refl) ∙ ap (λ (k : ℕ). Some k) (omega arith)
step t ts q o p true false same is =
    let none : greatest_end ts q ≡ 0 = unnamed ts q (sym is) in
    ap (λ (r : Option ℕ). Some (max t.1.1 (unwrap_or r 0))) (same refl) ∙ ap (λ (k : ℕ). Some k) (omega (arith, none))
step t ts q o p false true same is = refl
step t ts q o p false false same is = refl

get_so_far : (ts : List Term) (m : FinMap nat_cmp ℕ) (q : ℕ) → get (fold with_end m ts) q ≡ reached (get m q) ts q
unfolding names reached
get_so_far [] m q = refl
get_so_far (t ∷ ts) m q =
    let at : get (with_end m t) q ≡ cond (t.0 == q) (Some (max t.1.1 (unwrap_or (get m t.0) 0))) (get m q) =
    get-insert nat_cmp_total m t.0 (max t.1.1 (unwrap_or (get m t.0) 0)) q ∙ ap (λ b. cond b (Some (max t.1.1 (unwrap_or (get m t.0) 0))) (get m q)) (at_is q t.0) in
    get_so_far ts (with_end m t) q
    ∙ ap (λ (o : Option ℕ). reached o ts q) at
    ∙ step t ts q (get m q) (get m t.0) (t.0 == q) (names ts q) (λ e. ap (get m) (eqb-true t.0 q e)) refl

-- the seeds' entries, of any values
abbrev pub entries_by : (ℕ → ℕ) → List Term → List (ℕ × ℕ)
entries_by f ts = map (λ t. (t.0, f t.0)) ts

found_by : (f : ℕ → ℕ) (ts : List Term) (q : ℕ) → lookup (is_at (nat_cmp q)) (entries_by f ts) ≡ cond (names ts q) (Some (f q)) None
unfolding names
found_by f [] q = refl
found_by f (t ∷ ts) q =
    ap (λ b. cond b (Some (f t.0)) (lookup (is_at (nat_cmp q)) (entries_by f ts))) (at_is q t.0)
    ∙ elim (t.0 == q) as (λ b. (b ≡ true → t.0 ≡ q) → cond b (Some (f t.0)) (lookup (is_at (nat_cmp q)) (entries_by f ts)) ≡ cond (b || names ts q) (Some (f q)) None) [
      | true ↦ λ same. ap (λ (s : ℕ). Some (f s)) (same refl)
      | false ↦ λ same. found_by f ts q
    ] (eqb-true t.0 q)

get_by : (f : ℕ → ℕ) (ts : List Term) (q : ℕ) → get (from_entries {R = nat_cmp} (entries_by f ts)) q ≡ cond (names ts q) (Some (f q)) None
get_by f ts q = get-from_entries nat_cmp_total (entries_by f ts) q ∙ find_is (entries_by f ts) q ∙ found_by f ts q

same_ends : (terms : List Term) → so_far terms ≡ from_entries {R = nat_cmp} (entries_by (greatest_end terms) terms)
unfolding reached
same_ends terms = same_map nat_cmp_total nat_cmp-IsAntisymmetric _ _ (λ q.
    get_so_far terms empty q
    ∙ ap (λ (o : Option ℕ). cond (names terms q) (Some (max (unwrap_or o 0) (greatest_end terms q))) o) (get-empty nat_cmp q)
    ∙ ap (λ (k : ℕ). cond (names terms q) (Some k) None) (omega arith)
    ∙ sym (get_by (greatest_end terms) terms q))

pub all_ends : (terms : List Term) → entries (so_far terms) ≡ ends_of terms
unfolding ends_of
all_ends terms = ap entries (same_ends terms)

-- each term's seed is among them
or_true : (b n : Bool) → n ≡ true → b || n ≡ true
or_true true n e = refl
or_true false n e = e

true_or : (b n : Bool) → b ≡ true → b || n ≡ true
true_or true n e = refl
true_or false n e = let no : ⊥ = cc in absurd no

named_in : (all ts : List Term) → ((q : ℕ) → names ts q ≡ true → names all q ≡ true) → AllByRecursion (λ t. names all t.0 ≡ true) ts
unfolding names
named_in all [] more = tt
named_in all (t ∷ ts) more = (more t.0 (true_or (t.0 == t.0) (names ts t.0) (eq-eqb t.0 t.0 refl)), named_in all ts (λ q e. more q (or_true (t.0 == q) (names ts q) e)))

pub named : (terms : List Term) → AllByRecursion (λ t. names terms t.0 ≡ true) terms
named terms = named_in terms terms (λ q e. e)

pub end_found : (terms : List Term) (q : ℕ) → names terms q ≡ true → lookup (is_at (nat_cmp q)) (ends_of terms) ≡ Some (greatest_end terms q)
unfolding ends_of
end_found terms q e = found (from_entries (entries_by (greatest_end terms) terms)) q ∙ get_by (greatest_end terms) terms q ∙ ap (λ b. cond b (Some (greatest_end terms q)) None) e
