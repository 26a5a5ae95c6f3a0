-- Sets of hashes and what they hold.
use Rattle.std.proofs.Common.{◌≡◌, ◌∙◌, ℕ, ◌&&◌, ◌||◌, cond, true, false, Bool, List, [], ◌∷◌, map, Option, Some, None, refl, sym, ap, subst}
use Rattle.std.specs.Option.{is_some}
use Rattle.std.specs.List.{list_any}
use Rattle.std.specs.Prelude.{T}
use Rattle.std.specs.Ordering.{eq_by_cmp, is_lt}
use Rattle.std.specs.FinMap.{FinMap, get, insert, keys, entries, entries_sorted, is_sorted, find, from_sorted, entries-from_sorted, get-from_sorted, get-entries, get-empty, get-insert, same_map}
use Rattle.std.specs.FinMap as finmap
use Rattle.std.specs.FinMap.Entries.{below_all}
use Rattle.std.proofs.lemmas.Map.Text.{is_eq-slice_cmp}
use Rattle.xet_types.specs.Names.{hash_cmp, same_hash}
use Rattle.xet_bytes.proofs.Maps.{hash_exact, hash_total}
use Rattle.xet_shard.specs.Listings.{ShardModel}
use Rattle.xet_shard.specs.Canonical.{shard_name}
use Rattle.xet_store.specs.StoreModel.{Hashes, shard_named}
use Rattle.xet_store.specs.Indexed.{Kept, Listed, in_order, IsIndexed}
use Rattle.xet_store.specs.Lists.{set_with, set_of}
use Rattle.xet_store.specs.Checks.{is_among}
use Rattle.xet_store.proofs.Listings.{same_turned}
use Rattle.xet_store.proofs.Indexed.{named_nowhere, named_there}

abbrev Unit0 : Type 0
Unit0 = Unit {0}

-- ---- maps with the same keys

abbrev without_values : {X : Type 0} → List (List ℕ × X) → List (List ℕ × Unit0)
without_values es = map (λ e. (e.0, tt)) es

same_keys : {X : Type 0} (es : List (List ℕ × X)) → map (λ e. e.0) (without_values es) ≡ map (λ e. e.0) es
same_keys [] = refl
same_keys (e ∷ es) = ap (λ (hs : List (List ℕ)). e.0 ∷ hs) (same_keys es)

same_below : {X : Type 0} (q : List ℕ) (es : List (List ℕ × X)) → below_all hash_cmp q (without_values es) ≡ below_all hash_cmp q es
same_below q [] = refl
same_below q (e ∷ es) = ap (λ b. is_lt (hash_cmp q e.0) && b) (same_below q es)

same_order : {X : Type 0} (es : List (List ℕ × X)) → is_sorted hash_cmp (without_values es) ≡ is_sorted hash_cmp es
same_order [] = refl
same_order (e ∷ es) = ap (λ b. b && is_sorted hash_cmp (without_values es)) (same_below e.0 es) ∙ ap (λ b. below_all hash_cmp e.0 es && b) (same_order es)

abbrev seen : {X : Type 0} → Option X → Option Unit0
seen None = None
seen (Some x) = Some tt

same_found : {X : Type 0} (q : List ℕ) (es : List (List ℕ × X)) → find hash_cmp q (without_values es) ≡ seen (find hash_cmp q es)
same_found q [] = refl
same_found q (e ∷ es) =
    elim (eq_by_cmp hash_cmp q e.0) as (λ b. cond b (Some tt) (find hash_cmp q (without_values es)) ≡ seen (cond b (Some e.1) (find hash_cmp q es))) [
      | true ↦ refl
      | false ↦ same_found q es
    ]

same_seen : {X Y : Type 0} (a : Option X) (b : Option Y) → is_some a ≡ is_some b → seen a ≡ seen b
same_seen None None e = refl
same_seen None (Some y) e = let no : ⊥ = cc in absurd no
same_seen (Some x) None e = let no : ⊥ = cc in absurd no
same_seen (Some x) (Some y) e = refl

sorted_seen : {X : Type 0} (m : FinMap hash_cmp X) → T (is_sorted hash_cmp (without_values (entries m)))
sorted_seen m = subst T (sym (same_order (entries m))) (entries_sorted m)

keys_only : {X : Type 0} → FinMap hash_cmp X → FinMap hash_cmp Unit0
keys_only m = from_sorted {R = hash_cmp} (without_values (entries m))

keys_are : {X : Type 0} (m : FinMap hash_cmp X) → keys (keys_only m) ≡ keys m
unfolding keys_only
keys_are m = ap (map (λ e. e.0)) (entries-from_sorted hash_cmp (without_values (entries m)) (sorted_seen m)) ∙ same_keys (entries m)

seen_is : {X : Type 0} (m : FinMap hash_cmp X) (q : List ℕ) → get (keys_only m) q ≡ seen (get m q)
unfolding keys_only
seen_is m q = get-from_sorted hash_cmp (without_values (entries m)) q (sorted_seen m) ∙ same_found q (entries m) ∙ ap seen (sym (get-entries m q))

-- maps that have values at the same hashes have the same hashes in order
pub keys_same : {X Y : Type 0} (a : FinMap hash_cmp X) (b : FinMap hash_cmp Y) → ((q : List ℕ) → is_some (get a q) ≡ is_some (get b q)) → keys a ≡ keys b
keys_same a b same =
    sym (keys_are a)
    ∙ ap (λ (m : FinMap hash_cmp Unit0). keys m) (same_map hash_total hash_exact (keys_only a) (keys_only b) (λ q. seen_is a q ∙ same_seen (get a q) (get b q) (same q) ∙ sym (seen_is b q)))
    ∙ keys_are b

-- ---- what a set has

pub same_by_cmp : (q h : List ℕ) → eq_by_cmp hash_cmp q h ≡ same_hash h q
same_by_cmp q h = is_eq-slice_cmp q h ∙ same_turned q h

one_more : (o : Option Unit0) (b rest : Bool) → (is_some (cond b (Some tt) o) || rest) ≡ (is_some o || (b || rest))
one_more None true rest = refl
one_more None false rest = refl
one_more (Some u) true rest = refl
one_more (Some u) false rest = refl

pub has-set_with : (set : Hashes) (hashes : List (List ℕ)) (q : List ℕ) → is_some (get (set_with set hashes) q) ≡ (is_some (get set q) || is_among hashes q)
has-set_with set [] q = elim (is_some (get set q)) as (λ b. b ≡ (b || false)) [ true ↦ refl | false ↦ refl ]
has-set_with set (h ∷ hs) q =
    has-set_with (insert set h tt) hs q
    ∙ ap (λ (o : Option Unit0). is_some o || is_among hs q) (get-insert hash_total set h tt q ∙ ap (λ b. cond b (Some tt) (get set q)) (same_by_cmp q h))
    ∙ one_more (get set q) (same_hash h q) (is_among hs q)

pub has-set_of : (hashes : List (List ℕ)) (q : List ℕ) → is_some (get (set_of hashes) q) ≡ is_among hashes q
has-set_of hashes q = has-set_with finmap.empty hashes q ∙ ap (λ (o : Option Unit0). is_some o || is_among hashes q) (get-empty hash_cmp q)

-- ---- the names of shards

named_among : (ss : List ShardModel) (q : List ℕ) → is_some (shard_named ss q) ≡ is_among (map shard_name ss) q
named_among [] q = refl
named_among (s ∷ ss) q =
    elim (same_hash (shard_name s) q) as (λ b. is_some (cond b (Some s) (shard_named ss q)) ≡ (b || is_among (map shard_name ss) q)) [
      | true ↦ refl
      | false ↦ named_among ss q
    ]

numbered : (kept : Kept) (by_name : FinMap hash_cmp ℕ) (listed : Listed) (next : ℕ) (q : List ℕ) → IsIndexed kept by_name listed next → (o : Option ℕ) → get by_name q ≡ o → is_some o ≡ is_some (shard_named (in_order kept) q)
numbered kept by_name listed next q x None e = sym (ap is_some (named_nowhere kept by_name listed next q x e).0)
numbered kept by_name listed next q x (Some k) e = sym (named_there kept by_name listed next q k x e)

-- the names that have serial numbers are those of the shards
pub names_are : (kept : Kept) (by_name : FinMap hash_cmp ℕ) (listed : Listed) (next : ℕ) → IsIndexed kept by_name listed next → keys by_name ≡ keys (set_of (map shard_name (in_order kept)))
names_are kept by_name listed next x = keys_same by_name (set_of (map shard_name (in_order kept))) (λ q.
    numbered kept by_name listed next q x (get by_name q) refl ∙ named_among (in_order kept) q ∙ sym (has-set_of (map shard_name (in_order kept)) q))
