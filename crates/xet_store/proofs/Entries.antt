-- Entries for deduplication, in places that may be empty.
use Rattle.std.proofs.Common.{◌≡◌, ◌∙◌, cond, true, false, Bool, List, [], ◌∷◌, ◌++◌, ◌&&◌, ◌||◌, not, Option, Some, None, ℕ, zero, suc, ◌<◌, arith, length, get_or, refl, sym, ap, subst, Ordering}
use Rattle.std.specs.Prelude.{T}
use Rattle.std.specs.Option.{IsSome, is_some, option_and_then}
use Rattle.std.specs.List.{flat_map, list_any}
use Rattle.std.specs.FinMap.{get, insert, remove, retain_keys, keys, entries, is_sorted, entries_sorted, find, get-entries, get-insert, get-remove, get-retain_keys, contains_key-keys, get-from_entries, same_map, get-empty}
use Rattle.std.specs.FinMap as finmap
use Rattle.std.specs.FinMap.Entries.{below_all}
use Rattle.std.specs.Ordering.{is_eq, is_lt, eq_by_cmp}
use Rattle.std.specs.declared.cmp.Ordering.TheVariants.{Less, Equal, Greater}
use Rattle.std.proofs.lemmas.Cmp.{tied_itself}
use Rattle.std.proofs.lemmas.Map.Text.{is_eq-slice_cmp}
use lib.Pointwise.{bytes_decides}
use Rattle.xet_types.specs.Names.{hash_cmp, same_hash}
use Rattle.xet_bytes.proofs.Maps.{hash_exact, hash_total, found}
use Rattle.xet_store.specs.StoreModel.{with_entries}
use Rattle.xet_store.specs.Commands.{is_entry, without_entries}
use Rattle.xet_store.specs.Entries.{Reserved, filled_at, filled, filled_with, has_name, without_place, without_places, HavePlaces}
use Rattle.xet_store.proofs.Listings.{same_turned}

abbrev Place : Type 0
Place = List ℕ × Option (List ℕ)

abbrev pub opened : Option (Option (List ℕ)) → Option (List ℕ)
opened o = option_and_then (λ p. p) o

abbrev filled_places : List Place → List (List ℕ × List ℕ)
filled_places es = flat_map (λ e. filled_at e.0 e.1) es

both : (a b : Bool) → T (a && b) → T a × T b
both true b h = (tt, h)
both false b h = absurd h

less_of : (r : Ordering) → T (is_lt r) → r ≡ Less
less_of Less h = refl
less_of Equal h = absurd h
less_of Greater h = absurd h

find_place : (q : List ℕ) (chunk : List ℕ) (o : Option (List ℕ)) (rest : List (List ℕ × List ℕ)) (b : Bool) → eq_by_cmp hash_cmp q chunk ≡ b → find hash_cmp q (filled_at chunk o ++ rest) ≡ cond b (elim o as (λ _. Option (List ℕ)) [ None ↦ find hash_cmp q rest | Some name ↦ Some name ]) (find hash_cmp q rest)
find_place q chunk None rest true e = refl
find_place q chunk None rest false e = refl
find_place q chunk (Some name) rest b e = ap (λ b. cond b (found name) (find hash_cmp q rest)) e

-- a hash below all others has no place
absent : (q : List ℕ) (es : List Place) → T (below_all hash_cmp q es) → find hash_cmp q (filled_places es) ≡ None
absent q [] h = refl
absent q (e ∷ es) h =
    let p = both (is_lt (hash_cmp q e.0)) (below_all hash_cmp q es) h in
    find_place q e.0 e.1 (filled_places es) false (ap is_eq (less_of (hash_cmp q e.0) p.0)) ∙ absent q es p.1

below_same : (a b : List ℕ) (es : List Place) → a ≡ b → T (below_all hash_cmp b es) → T (below_all hash_cmp a es)
below_same a b es e h = subst (λ q. T (below_all hash_cmp q es)) (sym e) h

-- what is found among the entries is what the place has
find_filled : (es : List Place) (q : List ℕ) → T (is_sorted hash_cmp es) → find hash_cmp q (filled_places es) ≡ opened (find hash_cmp q es)
find_filled [] q h = refl
find_filled (e ∷ es) q h =
    let p = both (below_all hash_cmp e.0 es) (is_sorted hash_cmp es) h in
    let here : (r : Ordering) (o : Option (List ℕ)) → hash_cmp q e.0 ≡ r → find hash_cmp q (filled_at e.0 o ++ filled_places es) ≡ opened (cond (is_eq r) (Some o) (find hash_cmp q es))
    = λ r o. elim r as (λ r. hash_cmp q e.0 ≡ r → find hash_cmp q (filled_at e.0 o ++ filled_places es) ≡ opened (cond (is_eq r) (Some o) (find hash_cmp q es))) [
      | Less ↦ λ c. find_place q e.0 o (filled_places es) false (ap is_eq c) ∙ find_filled es q p.1
      | Equal ↦ λ c. find_place q e.0 o (filled_places es) true (ap is_eq c) ∙ (elim o as (λ o. (elim o as (λ _. Option (List ℕ)) [ None ↦ find hash_cmp q (filled_places es) | Some name ↦ Some name ]) ≡ o) [
        | None ↦ absent q es (below_same q e.0 es (hash_exact q e.0 c) p.0)
        | Some name ↦ refl
      ])
      | Greater ↦ λ c. find_place q e.0 o (filled_places es) false (ap is_eq c) ∙ find_filled es q p.1
    ] in
    here (hash_cmp q e.0) e.1 refl

pub get-filled : (m : Reserved) (q : List ℕ) → get (filled m) q ≡ opened (get m q)
get-filled m q = get-from_entries hash_total (filled_places (entries m)) q ∙ find_filled (entries m) q (entries_sorted m) ∙ ap opened (sym (get-entries m q))

-- the entry is what the place has
pub entry_is : (m : Reserved) (q : List ℕ) (o : Option (Option (List ℕ))) → o ≡ get m q → opened o ≡ get (filled m) q
entry_is m q o e = ap opened e ∙ sym (get-filled m q)

-- a new empty place is no entry
pub filled_empty : (m : Reserved) (chunk : List ℕ) → get m chunk ≡ None → filled (insert m chunk None) ≡ filled m
filled_empty m chunk none = same_map hash_total hash_exact (filled (insert m chunk None)) (filled m) (λ q.
    get-filled (insert m chunk None) q ∙ ap opened (get-insert hash_total m chunk None q) ∙ same q ∙ sym (get-filled m q))
  where
    same : (q : List ℕ) → opened (cond (eq_by_cmp hash_cmp q chunk) (Some None) (get m q)) ≡ opened (get m q)
    same q = elim (hash_cmp q chunk) as (λ r. hash_cmp q chunk ≡ r → opened (cond (is_eq r) (Some None) (get m q)) ≡ opened (get m q)) [
      | Less ↦ λ c. refl
      | Equal ↦ λ c. sym (ap opened (ap (get m) (hash_exact q chunk c) ∙ none))
      | Greater ↦ λ c. refl
    ] refl

-- a name in a place is an entry
pub filled_put : (m : Reserved) (chunk name : List ℕ) → filled (insert m chunk (Some name)) ≡ insert (filled m) chunk name
filled_put m chunk name = same_map hash_total hash_exact (filled (insert m chunk (Some name))) (insert (filled m) chunk name) (λ q.
    get-filled (insert m chunk (Some name)) q ∙ ap opened (get-insert hash_total m chunk (Some name) q)
    ∙ elim (eq_by_cmp hash_cmp q chunk) as (λ b. opened (cond b (Some (Some name)) (get m q)) ≡ cond b (Some name) (opened (get m q))) [ true ↦ refl | false ↦ refl ]
    ∙ ap (cond (eq_by_cmp hash_cmp q chunk) (Some name)) (sym (get-filled m q)) ∙ sym (get-insert hash_total (filled m) chunk name q))

pub filled_all : (m : Reserved) (chunks : List (List ℕ)) (name : List ℕ) → filled (filled_with m chunks name) ≡ with_entries (filled m) chunks name
filled_all m [] name = refl
filled_all m (chunk ∷ chunks) name = filled_all (insert m chunk (Some name)) chunks name ∙ ap (λ d. with_entries d chunks name) (filled_put m chunk name)

-- ---- places

pub place_stays : (m : Reserved) (chunk q : List ℕ) (o : Option (List ℕ)) → IsSome (get m q) → IsSome (get (insert m chunk o) q)
place_stays m chunk q o h = subst IsSome (sym (get-insert hash_total m chunk o q)) (elim (eq_by_cmp hash_cmp q chunk) as (λ b. IsSome (cond b (Some o) (get m q))) [ true ↦ refl | false ↦ h ])

pub place_there : (m : Reserved) (chunk : List ℕ) (o : Option (List ℕ)) → IsSome (get (insert m chunk o) chunk)
place_there m chunk o = subst IsSome (sym (get-insert hash_total m chunk o chunk ∙ ap (λ b. cond b (Some o) (get m chunk)) (ap is_eq (tied_itself hash_total chunk)))) refl

pub places_stay : (m : Reserved) (chunks : List (List ℕ)) (chunk : List ℕ) (o : Option (List ℕ)) → HavePlaces m chunks → HavePlaces (insert m chunk o) chunks
places_stay m [] chunk o a = tt
places_stay m (c ∷ cs) chunk o a = (place_stays m chunk c o a.0, places_stay m cs chunk o a.1)

pub places_push : (m : Reserved) (chunks : List (List ℕ)) (chunk : List ℕ) → HavePlaces m chunks → IsSome (get m chunk) → HavePlaces m (chunks ++ chunk ∷ [])
places_push m [] chunk a h = (h, tt)
places_push m (c ∷ cs) chunk a h = (a.0, places_push m cs chunk a.1 h)

pub place_filled : (m : Reserved) (chunks : List (List ℕ)) (name q : List ℕ) → IsSome (get m q) → IsSome (get (filled_with m chunks name) q)
place_filled m [] name q h = h
place_filled m (c ∷ cs) name q h = place_filled (insert m c (Some name)) cs name q (place_stays m c q (Some name) h)

pub place_of : (m : Reserved) (chunks : List (List ℕ)) (i : ℕ) (d : List ℕ) → HavePlaces m chunks → i < length chunks → IsSome (get m (get_or chunks i d))
place_of m [] i d a l = let no : ⊥ = omega (arith, l) in absurd no
place_of m (c ∷ cs) zero d a l = a.0
place_of m (c ∷ cs) (suc i) d a l = place_of m cs i d a.1 (omega (arith, l))

-- ---- answers about places

pub not_none : {X : Type 0} (o : Option X) → o ≡ None → IsSome o → ⊥
not_none None e h = let no : ⊥ = cc in no
not_none (Some x) e h = let no : ⊥ = cc in no

pub none_of : {X : Type 0} (o : Option X) (b : Bool) → b ≡ is_some o → b ≡ false → o ≡ None
none_of None b e h = refl
none_of (Some x) b e h = let q : true ≡ false = sym e ∙ h in let no : ⊥ = cc in absurd no

pub some_of : {X : Type 0} (o : Option X) (b : Bool) → b ≡ is_some o → b ≡ true → IsSome o
some_of o b e h = sym e ∙ h

-- no places, no entries
pub filled_none : filled finmap.empty ≡ finmap.empty
filled_none = same_map hash_total hash_exact (filled finmap.empty) finmap.empty (λ q.
    get-filled finmap.empty q ∙ ap opened (get-empty hash_cmp q) ∙ sym (get-empty hash_cmp q))

-- ---- entries that are taken out

abbrev kept_place : Bool → Option (Option (List ℕ)) → Option (Option (List ℕ))
kept_place gone o = cond gone None o

same_by_cmp : (q chunk : List ℕ) → eq_by_cmp hash_cmp q chunk ≡ same_hash chunk q
same_by_cmp q chunk = is_eq-slice_cmp q chunk ∙ same_turned q chunk

-- what a place has after one was looked at
get-without_place : (m : Reserved) (name chunk q : List ℕ) → get (without_place name m chunk) q ≡ kept_place (same_hash chunk q && has_name name (get m q)) (get m q)
get-without_place m name chunk q =
    elim (has_name name (get m chunk)) as (λ h. has_name name (get m chunk) ≡ h → get (cond h (remove m chunk) m) q ≡ kept_place (same_hash chunk q && has_name name (get m q)) (get m q)) [
      | true ↦ λ has. get-remove hash_total m chunk q ∙ ap (λ b. kept_place b (get m q)) (same_by_cmp q chunk) ∙ taken (same_hash chunk q) refl has
      | false ↦ λ hasnt. left (same_hash chunk q) refl hasnt
    ] refl
  where
    same : same_hash chunk q ≡ true → get m chunk ≡ get m q
    same e = ap (get m) ((bytes_decides chunk q).0 e)

    taken : (s : Bool) → same_hash chunk q ≡ s → has_name name (get m chunk) ≡ true → kept_place s (get m q) ≡ kept_place (s && has_name name (get m q)) (get m q)
    taken true e has = ap (λ b. kept_place b (get m q)) (sym has ∙ ap (has_name name) (same e))
    taken false e has = refl

    left : (s : Bool) → same_hash chunk q ≡ s → has_name name (get m chunk) ≡ false → get m q ≡ kept_place (s && has_name name (get m q)) (get m q)
    left true e hasnt = ap (λ b. kept_place b (get m q)) (sym hasnt ∙ ap (has_name name) (same e))
    left false e hasnt = refl

-- first one place, and then others
gone_or_later : (name : List ℕ) (s a : Bool) (o : Option (Option (List ℕ))) (h : Bool) → has_name name o ≡ h →
    kept_place (a && has_name name (kept_place (s && h) o)) (kept_place (s && h) o) ≡ kept_place ((s || a) && h) o
gone_or_later name true true o true e = refl
gone_or_later name true false o true e = refl
gone_or_later name true true o false e = ap (λ b. kept_place b o) e
gone_or_later name true false o false e = refl
gone_or_later name false true o true e = ap (λ b. kept_place b o) e
gone_or_later name false false o true e = refl
gone_or_later name false true o false e = ap (λ b. kept_place b o) e
gone_or_later name false false o false e = refl

abbrev among : List (List ℕ) → List ℕ → Bool
among chunks q = list_any (λ c. same_hash c q) chunks

get-without_places : (m : Reserved) (chunks : List (List ℕ)) (name q : List ℕ) → get (without_places m chunks name) q ≡ kept_place (among chunks q && has_name name (get m q)) (get m q)
get-without_places m [] name q = refl
get-without_places m (c ∷ cs) name q =
    get-without_places (without_place name m c) cs name q
    ∙ ap (λ (o : Option (Option (List ℕ))). kept_place (among cs q && has_name name o) o) (get-without_place m name c q)
    ∙ gone_or_later name (same_hash c q) (among cs q) (get m q) (has_name name (get m q)) refl

any_same : (f g : List ℕ → Bool) → ((x : List ℕ) → f x ≡ g x) → (xs : List (List ℕ)) → list_any f xs ≡ list_any g xs
any_same f g e [] = refl
any_same f g e (x ∷ xs) = ap (λ b. b || list_any f xs) (e x) ∙ ap (λ b. g x || b) (any_same f g e xs)

has_place : (m : Reserved) (q : List ℕ) → among (keys m) q ≡ is_some (get m q)
has_place m q = any_same (λ c. same_hash c q) (eq_by_cmp hash_cmp q) (λ c. sym (same_by_cmp q c)) (keys m) ∙ sym (contains_key-keys m q)

there_or_not : (name : List ℕ) (o : Option (Option (List ℕ))) → kept_place (is_some o && has_name name o) o ≡ kept_place (has_name name o) o
there_or_not name None = refl
there_or_not name (Some p) = refl

-- a place is no entry, has the name, or another
opened_left : (name : List ℕ) (o : Option (Option (List ℕ))) → opened (kept_place (has_name name o) o) ≡ cond (not (is_entry name (opened o))) (opened o) None
opened_left name None = refl
opened_left name (Some p) = elim (is_entry name p) as (λ b. opened (kept_place b (Some p)) ≡ cond (not b) p None) [ true ↦ refl | false ↦ refl ]

-- all places looked at, the entries are those that don't name the shard
pub dropped : (m : Reserved) (name : List ℕ) → filled (without_places m (keys m) name) ≡ without_entries (filled m) name
dropped m name = same_map hash_total hash_exact (filled (without_places m (keys m) name)) (without_entries (filled m) name) (λ q.
    get-filled (without_places m (keys m) name) q
    ∙ ap opened (get-without_places m (keys m) name q ∙ ap (λ b. kept_place (b && has_name name (get m q)) (get m q)) (has_place m q) ∙ there_or_not name (get m q))
    ∙ opened_left name (get m q)
    ∙ ap (λ (o : Option (List ℕ)). cond (not (is_entry name o)) o None) (sym (get-filled m q))
    ∙ sym (get-retain_keys (filled m) (λ chunk. not (is_entry name (get (filled m) chunk))) q (λ x e. ap (λ h. not (is_entry name (get (filled m) h))) (sym (hash_exact q x e)))))
