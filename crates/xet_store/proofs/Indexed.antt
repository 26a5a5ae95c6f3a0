-- Shards by serial number, and how they are found.
use Rattle.std.proofs.Common.{◌≡◌, ◌≢◌, ◌∙◌, ℕ, ◌+◌, ◌<◌, arith, rules, cond, not, ◌&&◌, true, false, Bool, nat_eq, List, [], ◌∷◌, ◌++◌, map, length, Option, Some, None, refl, sym, ap, subst, inl, inr, ◌⊎◌, Ordering}
use Rattle.std.specs.Prelude.{T, filter}
use Rattle.std.specs.Option.{IsSome, is_some}
use Rattle.std.specs.List.{AllByRecursion}
use Rattle.std.specs.FinMap.{FinMap, get, insert, remove, empty, entries, from_sorted, entries-from_sorted, get-from_sorted, find, put, is_sorted, entries_sorted, entries-insert, len-entries, len-empty, get-entries, get-empty, get-insert, get-remove, same_map, nat_cmp-IsAntisymmetric}
use Rattle.std.specs.FinMap.Entries.{below_all, where_key, by_order, is_sorted-where_key, find-where_key}
use Rattle.std.specs.Cmp.{nat_cmp_total, ranked}
use Rattle.std.specs.Ordering.{is_eq, is_lt, nat_cmp, eq_by_cmp}
use Rattle.std.specs.declared.cmp.Ordering.TheVariants.{Less, Equal, Greater}
use Rattle.std.proofs.lemmas.Bool.{eqb-true}
use Rattle.std.proofs.lemmas.Cmp.{tied_itself}
use Rattle.std.proofs.lemmas.Map.Text.{is_eq-slice_cmp}
use lib.Pointwise.{bytes_decides}
use Rattle.xet_types.specs.Names.{hash_cmp, same_hash}
use Rattle.xet_bytes.specs.Pairs.{pair_cmp, IsLastBelow}
use Rattle.xet_bytes.proofs.Pairs.{pair_total, pair_exact}
use Rattle.xet_bytes.proofs.Maps.{hash_exact, hash_total, found, some_is}
use Rattle.xet_shard.specs.Listings.{ShardModel}
use Rattle.xet_shard.specs.Canonical.{shard_name}
use Rattle.xet_store.specs.StoreModel.{lists, last_shard, or_else, shard_named, without_shard, with_shard}
use Rattle.xet_store.specs.Indexed.{Kept, Listed, in_order, IsNamed, IsListing, IsIndexed, IsFresh, with_pairs, without_pairs, unlisted}
use Rattle.xet_store.proofs.Listings.{is_pair, has_file, get-with_pairs, get-without_pairs}

-- ---- names and numbers

abbrev Names : Type 0
Names = FinMap hash_cmp ℕ

same_name : (a b : List ℕ) → a ≡ b → same_hash a b ≡ true
same_name a b e = (bytes_decides a b).1 e

other_name : (a b : List ℕ) → a ≢ b → same_hash a b ≡ false
other_name a b differ =
    elim (same_hash a b) as (λ t. same_hash a b ≡ t → t ≡ false) [ true ↦ λ e. absurd (differ ((bytes_decides a b).0 e)) | false ↦ λ e. refl ] refl

-- two names are one or they aren't
name_cases : (a b : List ℕ) → (a ≡ b) ⊎ (a ≢ b)
name_cases a b =
    elim (same_hash a b) as (λ t. same_hash a b ≡ t → (a ≡ b) ⊎ (a ≢ b)) [
      | true ↦ λ e. inl ((bytes_decides a b).0 e)
      | false ↦ λ e. inr (λ same. (let q : true ≡ false = sym (same_name a b same) ∙ e in let no : ⊥ = cc in no))
    ] refl

number_cases : (j k : ℕ) → (j ≡ k) ⊎ (j ≢ k)
number_cases j k =
    elim (nat_cmp j k) as (λ r. nat_cmp j k ≡ r → (j ≡ k) ⊎ (j ≢ k)) [
      | Less ↦ λ e. inr (λ same. (let l : j < k = ranked j k Less (sym e) in omega (arith, l, same)))
      | Equal ↦ λ e. inl (nat_cmp-IsAntisymmetric j k e)
      | Greater ↦ λ e. inr (λ same. (let l : k < j = ranked j k Greater (sym e) in omega (arith, l, same)))
    ] refl

number_apart : (j k : ℕ) → j ≢ k → eq_by_cmp nat_cmp j k ≡ false
number_apart j k differ =
    elim (nat_cmp j k) as (λ r. nat_cmp j k ≡ r → is_eq r ≡ false) [ Less ↦ λ e. refl | Equal ↦ λ e. absurd (differ (nat_cmp-IsAntisymmetric j k e)) | Greater ↦ λ e. refl ] refl

number_same : (j k : ℕ) → j ≡ k → eq_by_cmp nat_cmp j k ≡ true
number_same j k same = subst (λ k. eq_by_cmp nat_cmp j k ≡ true) same (ap is_eq (tied_itself nat_cmp_total j))

-- what maps have after a value was put in or taken out
pub put_same : (m : Kept) (k : ℕ) (s : ShardModel) → get (insert m k s) k ≡ Some s
put_same m k s = get-insert nat_cmp_total m k s k ∙ ap (λ b. cond b (Some s) (get m k)) (number_same k k refl)

put_other : (m : Kept) (k j : ℕ) (s : ShardModel) → j ≢ k → get (insert m k s) j ≡ get m j
put_other m k j s differ = get-insert nat_cmp_total m k s j ∙ ap (λ b. cond b (Some s) (get m j)) (number_apart j k differ)

gone_same : (m : Kept) (k : ℕ) → get (remove m k) k ≡ None
gone_same m k = get-remove nat_cmp_total m k k ∙ ap (λ b. cond b None (get m k)) (number_same k k refl)

gone_other : (m : Kept) (k j : ℕ) → j ≢ k → get (remove m k) j ≡ get m j
gone_other m k j differ = get-remove nat_cmp_total m k j ∙ ap (λ b. cond b None (get m j)) (number_apart j k differ)

name_put_same : (m : Names) (name : List ℕ) (k : ℕ) → get (insert m name k) name ≡ Some k
name_put_same m name k = get-insert hash_total m name k name ∙ ap (λ b. cond b (Some k) (get m name)) (is_eq-slice_cmp name name ∙ same_name name name refl)

name_put_other : (m : Names) (name other : List ℕ) (k : ℕ) → other ≢ name → get (insert m name k) other ≡ get m other
name_put_other m name other k differ = get-insert hash_total m name k other ∙ ap (λ b. cond b (Some k) (get m other)) (is_eq-slice_cmp other name ∙ other_name other name differ)

name_gone_same : (m : Names) (name : List ℕ) → get (remove m name) name ≡ None
name_gone_same m name = get-remove hash_total m name name ∙ ap (λ b. cond b None (get m name)) (is_eq-slice_cmp name name ∙ same_name name name refl)

name_gone_other : (m : Names) (name other : List ℕ) → other ≢ name → get (remove m name) other ≡ get m other
name_gone_other m name other differ = get-remove hash_total m name other ∙ ap (λ b. cond b None (get m other)) (is_eq-slice_cmp other name ∙ other_name other name differ)

none_some : {X Y : Type 0} (o : Option X) (x : X) → o ≡ None → o ≡ Some x → Y
none_some o x n s = let no : ⊥ = cc in absurd no

-- ---- entries in order of their numbers

abbrev Entry : Type 0
Entry = ℕ × ShardModel

both : (a b : Bool) → T (a && b) → T a × T b
both true b h = (tt, h)
both false b h = absurd h

less_of : (r : Ordering) → T (is_lt r) → r ≡ Less
less_of Less h = refl
less_of Equal h = absurd h
less_of Greater h = absurd h

below_entries : (k : ℕ) (es : List Entry) → T (below_all nat_cmp k es) → AllByRecursion (λ e. k < e.0) es
below_entries k [] h = tt
below_entries k (e ∷ es) h =
    let p = both (is_lt (nat_cmp k e.0)) (below_all nat_cmp k es) h in
    (ranked k e.0 Less (sym (less_of (nat_cmp k e.0) p.0)), below_entries k es p.1)

find_later : (k : ℕ) (e : Entry) (es : List Entry) → e.0 < k → find nat_cmp k (e ∷ es) ≡ find nat_cmp k es
find_later k e es l = ap (λ b. cond b (Some e.1) (find nat_cmp k es)) (number_apart k e.0 (λ same. omega (arith, l, same)))

all_map : {X : Type 0} (P Q : X → Type 0) (xs : List X) → ((x : X) → P x → Q x) → AllByRecursion P xs → AllByRecursion Q xs
all_map P Q [] f a = tt
all_map P Q (x ∷ xs) f a = (f x a.0, all_map P Q xs f a.1)

all_both : {X : Type 0} (P Q : X → Type 0) (xs : List X) → AllByRecursion P xs → AllByRecursion Q xs → AllByRecursion (λ x. P x × Q x) xs
all_both P Q [] a b = tt
all_both P Q (x ∷ xs) a b = ((a.0, b.0), all_both P Q xs a.1 b.1)

-- each entry is found
found_entries : (es : List Entry) → T (is_sorted nat_cmp es) → AllByRecursion (λ e. find nat_cmp e.0 es ≡ Some e.1) es
found_entries [] h = tt
found_entries (e ∷ es) h =
    let p = both (below_all nat_cmp e.0 es) (is_sorted nat_cmp es) h in (
      ap (λ b. cond b (Some e.1) (find nat_cmp e.0 es)) (number_same e.0 e.0 refl),
      all_map (λ f. (e.0 < f.0) × (find nat_cmp f.0 es ≡ Some f.1)) (λ f. find nat_cmp f.0 (e ∷ es) ≡ Some f.1) es (λ f q. find_later f.0 e es q.0 ∙ q.1)
          (all_both (λ f. e.0 < f.0) (λ f. find nat_cmp f.0 es ≡ Some f.1) es (below_entries e.0 es p.0) (found_entries es p.1)),
    )

-- what holds of each shard that is found holds of each entry
each_entry : (P : Entry → Type 0) (m : Kept) → ((k : ℕ) (s : ShardModel) → get m k ≡ Some s → P (k, s)) → AllByRecursion P (entries m)
each_entry P m f =
    all_map (λ e. find nat_cmp e.0 (entries m) ≡ Some e.1) P (entries m) (λ e q. f e.0 e.1 (get-entries m e.0 ∙ q)) (found_entries (entries m) (entries_sorted m))

-- ---- the last shard that lists a file

abbrev shards_of : List Entry → List ShardModel
shards_of es = map (λ e. e.1) es

none_lists : (es : List Entry) (file : List ℕ) → AllByRecursion (λ e. lists e.1 file ≡ false) es → last_shard (shards_of es) file ≡ None
none_lists [] file a = refl
none_lists (e ∷ es) file a = ap (λ o. or_else o (cond (lists e.1 file) (Some e.1) None)) (none_lists es file a.1) ∙ ap (λ b. cond b (Some e.1) None) a.0

unlisting : (s : ShardModel) (file : List ℕ) → (lists s file ≡ true → ⊥) → lists s file ≡ false
unlisting s file f = elim (lists s file) as (λ b. lists s file ≡ b → b ≡ false) [ true ↦ λ e. absurd (f e) | false ↦ λ e. refl ] refl

last_in : (es : List Entry) (file : List ℕ) (k : ℕ) (s : ShardModel) → T (is_sorted nat_cmp es) → find nat_cmp k es ≡ Some s → lists s file ≡ true
    → ((j : ℕ) (t : ShardModel) → k < j → find nat_cmp j es ≡ Some t → lists t file ≡ true → ⊥) → last_shard (shards_of es) file ≡ Some s
last_in [] file k s sorted e l later = none_some None s refl e
last_in (x ∷ es) file k s sorted e l later =
    let p = both (below_all nat_cmp x.0 es) (is_sorted nat_cmp es) sorted in
    let beyond = below_entries x.0 es p.0 in
    elim (nat_cmp k x.0) as (λ r. nat_cmp k x.0 ≡ r → last_shard (shards_of (x ∷ es)) file ≡ Some s) [
      | Less ↦ λ r.
          (let far : k < x.0 = ranked k x.0 Less (sym r) in
          let none : find nat_cmp k (x ∷ es) ≡ None = find_none k (x ∷ es) (far, all_map (λ f. x.0 < f.0) (λ f. k < f.0) es (λ f q. omega (arith, far, q)) beyond) in
          none_some (find nat_cmp k (x ∷ es)) s none e)
      | Equal ↦ λ r.
          (let same : k ≡ x.0 = nat_cmp-IsAntisymmetric k x.0 r in
          let is : found x.1 ≡ found s = sym (ap (λ b. cond b (Some x.1) (find nat_cmp k es)) (ap is_eq r)) ∙ e in
          let is_s : x.1 ≡ s = some_is x.1 s is in
          let rest : last_shard (shards_of es) file ≡ None =
          none_lists es file (all_map (λ f. (x.0 < f.0) × (find nat_cmp f.0 es ≡ Some f.1)) (λ f. lists f.1 file ≡ false) es
          (λ f q. unlisting f.1 file (λ t. later f.0 f.1 (subst (λ n. n < f.0) (sym same) q.0) (find_later f.0 x es q.0 ∙ q.1) t))
          (all_both (λ f. x.0 < f.0) (λ f. find nat_cmp f.0 es ≡ Some f.1) es beyond (found_entries es p.1))) in
          ap (λ o. or_else o (cond (lists x.1 file) (Some x.1) None)) rest ∙ ap (λ (t : ShardModel). cond (lists t file) (Some t) None) is_s ∙ ap (λ b. cond b (Some s) None) l)
      | Greater ↦ λ r.
          (let far : x.0 < k = ranked k x.0 Greater (sym r) in
          let rest : last_shard (shards_of es) file ≡ Some s =
          last_in es file k s p.1 (sym (find_later k x es far) ∙ e) l (λ j t after q t_lists. later j t after (find_later j x es (omega (arith, far, after)) ∙ q) t_lists) in
          ap (λ o. or_else o (cond (lists x.1 file) (Some x.1) None)) rest)
    ] refl
  where
    find_none : (k : ℕ) (es : List Entry) → AllByRecursion (λ e. k < e.0) es → find nat_cmp k es ≡ None
    find_none k [] a = refl
    find_none k (e ∷ es) a = ap (λ b. cond b (Some e.1) (find nat_cmp k es)) (number_apart k e.0 (λ same. omega (arith, a.0, same))) ∙ find_none k es a.1

-- ---- the shard of a name

-- a shard has the name where its serial number is the name's
name_is : (kept : Kept) (by_name : Names) (listed : Listed) (next : ℕ) (name : List ℕ) (k j : ℕ) (t : ShardModel) → IsIndexed kept by_name listed next → get by_name name ≡ Some k → get kept j ≡ Some t → same_hash (shard_name t) name ≡ eq_by_cmp nat_cmp k j
name_is kept by_name listed next name k j t x e g =
    let named : get by_name (shard_name t) ≡ Some j = x.named j t g in
    elim (name_cases (shard_name t) name) as (λ _. same_hash (shard_name t) name ≡ eq_by_cmp nat_cmp k j) [
      | inl same ↦ (let is : k ≡ j = some_is k j (sym e ∙ ap (get by_name) (sym same) ∙ named) in same_name (shard_name t) name same ∙ sym (number_same k j is))
      | inr differ ↦ other_name (shard_name t) name differ ∙ sym (number_apart k j (λ is. differ (holds name t (get kept j) g (subst (λ i. IsNamed name (get kept i)) is (x.there name k e)))))
    ]
  where
    holds : (name : List ℕ) (t : ShardModel) (o : Option ShardModel) → o ≡ Some t → IsNamed name o → shard_name t ≡ name
    holds name t None g n = absurd n
    holds name t (Some s) g n = ap shard_name (sym (some_is s t g)) ∙ n

-- no shard has a name that has no serial number
unnamed : (kept : Kept) (by_name : Names) (listed : Listed) (next : ℕ) (name : List ℕ) (j : ℕ) (t : ShardModel) → IsIndexed kept by_name listed next → get by_name name ≡ None → get kept j ≡ Some t → shard_name t ≢ name
unnamed kept by_name listed next name j t x e g same = none_some (get by_name name) j e (ap (get by_name) (sym same) ∙ x.named j t g)

named_in : (es : List Entry) (name : List ℕ) (k : ℕ) → AllByRecursion (λ e. same_hash (shard_name e.1) name ≡ eq_by_cmp nat_cmp k e.0) es → shard_named (shards_of es) name ≡ find nat_cmp k es
named_in [] name k a = refl
named_in (e ∷ es) name k a = ap (λ b. cond b (Some e.1) (shard_named (shards_of es) name)) a.0 ∙ ap (cond (eq_by_cmp nat_cmp k e.0) (Some e.1)) (named_in es name k a.1)

pub named_at : (kept : Kept) (by_name : Names) (listed : Listed) (next : ℕ) (name : List ℕ) (k : ℕ) → IsIndexed kept by_name listed next → get by_name name ≡ Some k → shard_named (in_order kept) name ≡ get kept k
named_at kept by_name listed next name k x e =
    named_in (entries kept) name k (each_entry (λ f. same_hash (shard_name f.1) name ≡ eq_by_cmp nat_cmp k f.0) kept (λ j t g. name_is kept by_name listed next name k j t x e g))
    ∙ sym (get-entries kept k)

none_named : (es : List Entry) (name : List ℕ) → AllByRecursion (λ e. same_hash (shard_name e.1) name ≡ false) es → (shard_named (shards_of es) name ≡ None) × (without_shard (shards_of es) name ≡ shards_of es)
none_named [] name a = (refl, refl)
none_named (e ∷ es) name a =
    let rest = none_named es name a.1 in (
      ap (λ b. cond b (Some e.1) (shard_named (shards_of es) name)) a.0 ∙ rest.0,
      ap (λ b. cond (not b) (e.1 ∷ without_shard (shards_of es) name) (without_shard (shards_of es) name)) a.0 ∙ ap (λ (ss : List ShardModel). e.1 ∷ ss) rest.1,
    )

-- where the name has no serial number, there is no such shard, and none is taken out
pub named_nowhere : (kept : Kept) (by_name : Names) (listed : Listed) (next : ℕ) (name : List ℕ) → IsIndexed kept by_name listed next → get by_name name ≡ None → (shard_named (in_order kept) name ≡ None) × (without_shard (in_order kept) name ≡ in_order kept)
named_nowhere kept by_name listed next name x e =
    none_named (entries kept) name (each_entry (λ f. same_hash (shard_name f.1) name ≡ false) kept (λ j t g. other_name (shard_name t) name (unnamed kept by_name listed next name j t x e g)))

-- ---- a shard that is taken out

filter_values : (p : ℕ → Bool) (q : ShardModel → Bool) (es : List Entry) → AllByRecursion (λ e. p e.0 ≡ q e.1) es → shards_of (filter (λ e. p e.0) es) ≡ filter q (shards_of es)
filter_values p q [] a = refl
filter_values p q (e ∷ es) a =
    elim (p e.0) as (λ b. shards_of (cond b (e ∷ filter (λ e. p e.0) es) (filter (λ e. p e.0) es)) ≡ cond b (e.1 ∷ shards_of (filter (λ e. p e.0) es)) (shards_of (filter (λ e. p e.0) es))) [ true ↦ refl | false ↦ refl ]
    ∙ ap (λ b. cond b (e.1 ∷ shards_of (filter (λ e. p e.0) es)) (shards_of (filter (λ e. p e.0) es))) a.0
    ∙ ap (λ (ss : List ShardModel). cond (q e.1) (e.1 ∷ ss) ss) (filter_values p q es a.1)

entries-remove : (m : Kept) (k : ℕ) → entries (remove m k) ≡ where_key nat_cmp (λ j. not (eq_by_cmp nat_cmp k j)) (entries m)
entries-remove m k =
    let p : ℕ → Bool = λ j. not (eq_by_cmp nat_cmp k j) in
    let left = where_key nat_cmp p (entries m) in
    let sorted = is_sorted-where_key nat_cmp p (entries m) (entries_sorted m) in
    let turned : (q : ℕ) (o : Option ShardModel) → cond (eq_by_cmp nat_cmp q k) None o ≡ cond (p q) o None
    = λ q o. elim (number_cases q k) as (λ _. cond (eq_by_cmp nat_cmp q k) None o ≡ cond (p q) o None) [
      | inl same ↦ ap (λ b. cond b None o) (number_same q k same) ∙ sym (ap (λ b. cond (not b) o None) (number_same k q (sym same)))
      | inr differ ↦ ap (λ b. cond b None o) (number_apart q k differ) ∙ sym (ap (λ b. cond (not b) o None) (number_apart k q (λ same. differ (sym same))))
    ] in
    ap entries (same_map nat_cmp_total nat_cmp-IsAntisymmetric (remove m k) (from_sorted {R = nat_cmp} left) (λ q.
    get-remove nat_cmp_total m k q ∙ turned q (get m q)
    ∙ sym (get-from_sorted nat_cmp left q sorted ∙ find-where_key nat_cmp p q (λ x e. ap p (sym (nat_cmp-IsAntisymmetric q x e))) (entries m) ∙ ap (λ o. cond (p q) o None) (sym (get-entries m q)))))
    ∙ entries-from_sorted nat_cmp left sorted

pub taken_out : (kept : Kept) (by_name : Names) (listed : Listed) (next : ℕ) (name : List ℕ) (k : ℕ) → IsIndexed kept by_name listed next → get by_name name ≡ Some k → in_order (remove kept k) ≡ without_shard (in_order kept) name
taken_out kept by_name listed next name k x e =
    ap shards_of (entries-remove kept k)
    ∙ filter_values (λ j. not (eq_by_cmp nat_cmp k j)) (λ t. not (same_hash (shard_name t) name)) (entries kept)
    (each_entry (λ f. not (eq_by_cmp nat_cmp k f.0) ≡ not (same_hash (shard_name f.1) name)) kept (λ j t g. ap not (sym (name_is kept by_name listed next name k j t x e g))))

-- what an answer that isn't None is
some_of : {X : Type 0} (o : Option X) → IsSome o → (x : X) × (o ≡ Some x)
some_of None h = let no : ⊥ = cc in absurd no
some_of (Some x) h = (x, refl)

kept_named : (name : List ℕ) (o : Option ShardModel) → IsNamed name o → (s : ShardModel) × (o ≡ Some s) × (shard_name s ≡ name)
kept_named name None h = absurd h
kept_named name (Some s) h = (s, refl, h)

kept_listing : (file : List ℕ) (o : Option ShardModel) → IsListing file o → (s : ShardModel) × (o ≡ Some s) × (lists s file ≡ true)
kept_listing file None h = absurd h
kept_listing file (Some s) h = (s, refl, h)

pair_at : (s : ShardModel) (k : ℕ) (file : List ℕ) → lists s file ≡ true → is_pair s.files k (file, k) ≡ true
pair_at s k file l = ap (λ b. nat_eq k k && b) l ∙ ap (λ b. b && true) (eqb-same k)
  where
    eqb-same : (k : ℕ) → nat_eq k k ≡ true
    eqb-same k = search rules

not_pair : (s : ShardModel) (k j : ℕ) (file : List ℕ) → j ≢ k → is_pair s.files k (file, j) ≡ false
not_pair s k j file differ =
    elim (nat_eq j k) as (λ b. nat_eq j k ≡ b → (b && has_file s.files file) ≡ false) [ true ↦ λ e. absurd (differ (eqb-true j k e)) | false ↦ λ e. refl ] refl

-- the index without a shard
pub gone_index : (kept : Kept) (by_name : Names) (listed : Listed) (next : ℕ) (name : List ℕ) (k : ℕ) → IsIndexed kept by_name listed next → get by_name name ≡ Some k
    → IsIndexed (remove kept k) (remove by_name name) (unlisted listed k (get kept k)) next
gone_index kept by_name listed next name k x e =
    let old : (s : ShardModel) × (get kept k ≡ Some s) × (shard_name s ≡ name) = kept_named name (get kept k) (x.there name k e) in
    let there : (j : ℕ) (t : ShardModel) → get (remove kept k) j ≡ Some t → (j ≢ k) × (get kept j ≡ Some t)
    = λ j t g. elim (number_cases j k) as (λ _. (j ≢ k) × (get kept j ≡ Some t)) [
      | inl same ↦ none_some (get (remove kept k) j) t (ap (get (remove kept k)) same ∙ gone_same kept k) g
      | inr differ ↦ (differ, sym (gone_other kept k j differ) ∙ g)
    ] in
    let pairs_are : (file : List ℕ) (j : ℕ) → get (unlisted listed k (get kept k)) (file, j) ≡ cond (is_pair (old.0).files k (file, j)) None (get listed (file, j))
    = λ file j. ap (λ o. get (unlisted listed k o) (file, j)) old.1 ∙ get-without_pairs listed (old.0).files k (file, j) in
    record {
      below = λ j t g. x.below j t (there j t g).1;
      named = λ j t g.
          (let here = there j t g in
          let at : get by_name (shard_name t) ≡ Some j = x.named j t here.1 in
          name_gone_other by_name name (shard_name t) (λ same. here.0 (sym (some_is k j (sym e ∙ ap (get by_name) (sym same) ∙ at)))) ∙ at);
      there = λ other j g.
          elim (name_cases other name) as (λ _. IsNamed other (get (remove kept k) j)) [
            | inl same ↦ none_some (get (remove by_name name) other) j (ap (get (remove by_name name)) same ∙ name_gone_same by_name name) g
            | inr differ ↦
                (let n : IsNamed other (get kept j) = x.there other j (sym (name_gone_other by_name name other differ) ∙ g) in
                let apart : j ≢ k = λ same. differ (names_one other name (get kept k) (subst (λ i. IsNamed other (get kept i)) same n) (x.there name k e)) in
                subst (IsNamed other) (sym (gone_other kept k j apart)) n)
          ];
      pairs = λ file j h.
          elim (number_cases j k) as (λ _. IsListing file (get (remove kept k) j)) [
            | inl same ↦
                (let h_k : IsSome (get (unlisted listed k (get kept k)) (file, k)) = subst (λ i. IsSome (get (unlisted listed k (get kept k)) (file, i))) same h in
                let was : IsSome (get listed (file, k)) = kept_some (is_pair (old.0).files k (file, k)) (get listed (file, k)) (subst IsSome (pairs_are file k) h_k) in
                let l : lists old.0 file ≡ true = listing_is file old.0 (get kept k) old.1 (x.pairs file k was) in
                let gone : get (unlisted listed k (get kept k)) (file, k) ≡ None = pairs_are file k ∙ ap (λ b. cond b None (get listed (file, k))) (pair_at old.0 k file l) in
                let s = some_of (get (unlisted listed k (get kept k)) (file, k)) h_k in
                none_some (get (unlisted listed k (get kept k)) (file, k)) s.0 gone s.1)
            | inr differ ↦
                (let was : IsSome (get listed (file, j)) = kept_some (is_pair (old.0).files k (file, j)) (get listed (file, j)) (subst IsSome (pairs_are file j) h) in
                subst (IsListing file) (sym (gone_other kept k j differ)) (x.pairs file j was))
          ];
      all = λ file j t g l.
          (let here = there j t g in
          subst IsSome (sym (pairs_are file j ∙ ap (λ b. cond b None (get listed (file, j))) (not_pair old.0 k j file here.0))) (x.all file j t here.1 l));
    }
  where
    names_one : (a b : List ℕ) (o : Option ShardModel) → IsNamed a o → IsNamed b o → a ≡ b
    names_one a b None h i = absurd h
    names_one a b (Some s) h i = sym h ∙ i

    kept_some : (b : Bool) (o : Option (Unit {0})) → IsSome (cond b None o) → IsSome o
    kept_some true o h = let no : ⊥ = cc in absurd no
    kept_some false o h = h

    listing_is : (file : List ℕ) (s : ShardModel) (o : Option ShardModel) → o ≡ Some s → IsListing file o → lists s file ≡ true
    listing_is file s None e h = absurd h
    listing_is file s (Some t) e h = ap (λ (u : ShardModel). lists u file) (sym (some_is t s e)) ∙ h

-- ---- a shard that goes last

above_all : (k : ℕ) (s : ShardModel) (es : List Entry) → AllByRecursion (λ e. e.0 < k) es → put nat_cmp k s es ≡ es ++ (k, s) ∷ []
above_all k s [] a = refl
above_all k s (e ∷ es) a =
    ap (λ r. by_order r ((k, s) ∷ e ∷ es) ((e.0, s) ∷ es) (e ∷ put nat_cmp k s es)) (above k e.0 a.0) ∙ ap (λ (fs : List Entry). e ∷ fs) (above_all k s es a.1)
  where
    above : (a b : ℕ) → b < a → nat_cmp a b ≡ Greater
    above a b l = search (rules, l)

values_push : (es : List Entry) (e : Entry) → shards_of (es ++ e ∷ []) ≡ shards_of es ++ e.1 ∷ []
values_push [] e = refl
values_push (f ∷ es) e = ap (λ (ss : List ShardModel). f.1 ∷ ss) (values_push es e)

pub put_last : (kept : Kept) (by_name : Names) (listed : Listed) (next : ℕ) (s : ShardModel) → IsIndexed kept by_name listed next → in_order (insert kept next s) ≡ in_order kept ++ s ∷ []
put_last kept by_name listed next s x =
    ap shards_of (entries-insert nat_cmp_total kept next s ∙ above_all next s (entries kept) (each_entry (λ e. e.0 < next) kept x.below))
    ∙ values_push (entries kept) (next, s)

-- no shard has the next serial number
pub next_is_free : (kept : Kept) (by_name : Names) (listed : Listed) (next : ℕ) → IsIndexed kept by_name listed next → get kept next ≡ None
next_is_free kept by_name listed next x =
    elim (get kept next) as (λ o. get kept next ≡ o → o ≡ None) [ None ↦ λ e. refl | Some s ↦ λ e. (let l : next < next = x.below next s e in let no : ⊥ = omega (arith, l) in absurd no) ] refl

pub next_is_fresh : (kept : Kept) (by_name : Names) (listed : Listed) (next : ℕ) → IsIndexed kept by_name listed next → IsFresh listed next
next_is_fresh kept by_name listed next x file =
    elim (get listed (file, next)) as (λ o. get listed (file, next) ≡ o → o ≡ None) [
      | None ↦ λ e. refl
      | Some u ↦ λ e.
          (let s = kept_listing file (get kept next) (x.pairs file next (subst IsSome (sym e) refl)) in
          none_some (get kept next) s.0 (next_is_free kept by_name listed next x) s.1)
    ] refl

-- the index with one more shard, of a name that no shard has
pub added_index : (kept : Kept) (by_name : Names) (listed : Listed) (next : ℕ) (s : ShardModel) → IsIndexed kept by_name listed next → get by_name (shard_name s) ≡ None
    → IsIndexed (insert kept next s) (insert by_name (shard_name s) next) (with_pairs listed s.files next) (next + 1)
added_index kept by_name listed next s x e =
    let old : (j : ℕ) (t : ShardModel) → get kept j ≡ Some t → get (insert kept next s) j ≡ Some t
    = λ j t g. (let l : j < next = x.below j t g in put_other kept next j s (λ same. omega (arith, l, same)) ∙ g) in
    let pairs_are : (file : List ℕ) (j : ℕ) → get (with_pairs listed s.files next) (file, j) ≡ cond (is_pair s.files next (file, j)) (Some tt) (get listed (file, j))
    = λ file j. get-with_pairs listed s.files next (file, j) in
    record {
      below = λ j t g. elim (number_cases j next) as (λ _. j < next + 1) [
        | inl same ↦ omega (arith, same)
        | inr differ ↦ (let l : j < next = x.below j t (sym (put_other kept next j s differ) ∙ g) in omega (arith, l))
      ];
      named = λ j t g. elim (number_cases j next) as (λ _. get (insert by_name (shard_name s) next) (shard_name t) ≡ Some j) [
        | inl same ↦
            (let is : s ≡ t = some_is s t (sym (put_same kept next s) ∙ ap (get (insert kept next s)) (sym same) ∙ g) in
            ap (λ (u : ShardModel). get (insert by_name (shard_name s) next) (shard_name u)) (sym is) ∙ name_put_same by_name (shard_name s) next ∙ ap found (sym same))
        | inr differ ↦
            (let at : get by_name (shard_name t) ≡ Some j = x.named j t (sym (put_other kept next j s differ) ∙ g) in
            name_put_other by_name (shard_name s) (shard_name t) next (λ one. none_some (get by_name (shard_name s)) j e (ap (get by_name) (sym one) ∙ at)) ∙ at)
      ];
      there = λ name j g. elim (name_cases name (shard_name s)) as (λ _. IsNamed name (get (insert kept next s) j)) [
        | inl same ↦
            (let is : next ≡ j = some_is next j (sym (name_put_same by_name (shard_name s) next) ∙ ap (get (insert by_name (shard_name s) next)) (sym same) ∙ g) in
            subst (IsNamed name) (sym (ap (get (insert kept next s)) (sym is) ∙ put_same kept next s)) (sym same))
        | inr differ ↦
            (let t = kept_named name (get kept j) (x.there name j (sym (name_put_other by_name (shard_name s) name next differ) ∙ g)) in
            subst (IsNamed name) (sym (old j t.0 t.1)) t.2)
      ];
      pairs = λ file j h.
          elim (is_pair s.files next (file, j)) as (λ b. is_pair s.files next (file, j) ≡ b → IsSome (cond b (Some tt) (get listed (file, j))) → IsListing file (get (insert kept next s) j)) [
            | true ↦ λ p q.
                (let halves = both_true (nat_eq j next) (has_file s.files file) p in
                let same : j ≡ next = eqb-true j next halves.0 in
                subst (IsListing file) (sym (ap (get (insert kept next s)) same ∙ put_same kept next s)) halves.1)
            | false ↦ λ p q.
                (let t = kept_listing file (get kept j) (x.pairs file j q) in
                subst (IsListing file) (sym (old j t.0 t.1)) t.2)
          ] refl (subst IsSome (pairs_are file j) h);
      all = λ file j t g l. elim (number_cases j next) as (λ _. IsSome (get (with_pairs listed s.files next) (file, j))) [
        | inl same ↦
            (let is : s ≡ t = some_is s t (sym (put_same kept next s) ∙ ap (get (insert kept next s)) (sym same) ∙ g) in
            let l_s : lists s file ≡ true = ap (λ (u : ShardModel). lists u file) is ∙ l in
            subst IsSome (sym (ap (λ i. get (with_pairs listed s.files next) (file, i)) same ∙ pairs_are file next ∙ ap (λ b. cond b (Some tt) (get listed (file, next))) (pair_at s next file l_s))) refl)
        | inr differ ↦
            (let was : IsSome (get listed (file, j)) = x.all file j t (sym (put_other kept next j s differ) ∙ g) l in
            subst IsSome (sym (pairs_are file j)) (still (is_pair s.files next (file, j)) (get listed (file, j)) was))
      ];
    }
  where
    both_true : (a b : Bool) → (a && b) ≡ true → (a ≡ true) × (b ≡ true)
    both_true true b h = (refl, h)
    both_true false b h = let no : ⊥ = cc in absurd no

    still : (b : Bool) (o : Option (Unit {0})) → IsSome o → IsSome (cond b (Some tt) o)
    still true o h = refl
    still false o h = h

-- ---- a shard that was there goes last again

swapped_pairs : (listed : Listed) (a b : ShardModel) (k next : ℕ) → k ≢ next → without_pairs (with_pairs listed a.files next) b.files k ≡ with_pairs (without_pairs listed b.files k) a.files next
swapped_pairs listed a b k next differ = same_map pair_total pair_exact _ _ (λ q.
    get-without_pairs (with_pairs listed a.files next) b.files k q
    ∙ ap (λ o. cond (is_pair b.files k q) None o) (get-with_pairs listed a.files next q)
    ∙ apart (nat_eq q.1 k) (nat_eq q.1 next) (has_file b.files q.0) (has_file a.files q.0) (get listed q) (λ p r. differ (sym (eqb-true q.1 k p) ∙ eqb-true q.1 next r))
    ∙ sym (get-with_pairs (without_pairs listed b.files k) a.files next q ∙ ap (λ o. cond (is_pair a.files next q) (Some tt) o) (get-without_pairs listed b.files k q)))
  where
    apart : (i j s t : Bool) (o : Option (Unit {0})) → (i ≡ true → j ≡ true → ⊥) → cond (i && s) None (cond (j && t) (Some tt) o) ≡ cond (j && t) (Some tt) (cond (i && s) None o)
    apart true true s t o never = absurd (never refl refl)
    apart true false s t o never = refl
    apart false j s t o never = refl

swapped_kept : (kept : Kept) (k next : ℕ) (s : ShardModel) → k ≢ next → remove (insert kept next s) k ≡ insert (remove kept k) next s
swapped_kept kept k next s differ = same_map nat_cmp_total nat_cmp-IsAntisymmetric _ _ (λ j.
    elim (number_cases j k) as (λ _. get (remove (insert kept next s) k) j ≡ get (insert (remove kept k) next s) j) [
      | inl same ↦ (let other : j ≢ next = λ is. differ (sym same ∙ is) in
          ap (get (remove (insert kept next s) k)) same ∙ gone_same (insert kept next s) k ∙ sym (put_other (remove kept k) next j s other ∙ ap (get (remove kept k)) same ∙ gone_same kept k))
      | inr apart ↦ gone_other (insert kept next s) k j apart ∙ (elim (number_cases j next) as (λ _. get (insert kept next s) j ≡ get (insert (remove kept k) next s) j) [
        | inl is ↦ ap (get (insert kept next s)) is ∙ put_same kept next s ∙ sym (ap (get (insert (remove kept k) next s)) is ∙ put_same (remove kept k) next s)
        | inr other ↦ put_other kept next j s other ∙ sym (put_other (remove kept k) next j s other ∙ gone_other kept k j apart)
      ])
    ])

put_again : (names : Names) (name : List ℕ) (next : ℕ) → insert names name next ≡ insert (remove names name) name next
put_again names name next = same_map hash_total hash_exact _ _ (λ q.
    elim (name_cases q name) as (λ _. get (insert names name next) q ≡ get (insert (remove names name) name next) q) [
      | inl same ↦ ap (get (insert names name next)) same ∙ name_put_same names name next ∙ sym (ap (get (insert (remove names name) name next)) same ∙ name_put_same (remove names name) name next)
      | inr differ ↦ name_put_other names name q next differ ∙ sym (name_put_other (remove names name) name q next differ ∙ name_gone_other names name q differ)
    ])

-- what is kept after an acceptance, where the name had this serial number
abbrev pub kept_after : Kept → ℕ → ShardModel → Option ℕ → Kept
kept_after kept next s None = insert kept next s
kept_after kept next s (Some k) = remove (insert kept next s) k

abbrev pub listed_after : Kept → Listed → ℕ → ShardModel → Option ℕ → Listed
listed_after kept listed next s None = with_pairs listed s.files next
listed_after kept listed next s (Some k) = unlisted (with_pairs listed s.files next) k (get (insert kept next s) k)

pub record Accepts (kept : Kept) (by_name : Names) (listed : Listed) (next : ℕ) (s : ShardModel) (earlier : Option ℕ) : Type 0 where
  pub index : IsIndexed (kept_after kept next s earlier) (insert by_name (shard_name s) next) (listed_after kept listed next s earlier) (next + 1)
  pub order : in_order (kept_after kept next s earlier) ≡ with_shard (in_order kept) s

pub accepts : (kept : Kept) (by_name : Names) (listed : Listed) (next : ℕ) (s : ShardModel) (earlier : Option ℕ) → IsIndexed kept by_name listed next → earlier ≡ get by_name (shard_name s) → Accepts kept by_name listed next s earlier
accepts kept by_name listed next s None x e = record {
  index = added_index kept by_name listed next s x (sym e);
  order = put_last kept by_name listed next s x ∙ ap (λ (ss : List ShardModel). ss ++ s ∷ []) (sym (named_nowhere kept by_name listed next (shard_name s) x (sym e)).1);
}
accepts kept by_name listed next s (Some k) x e =
    let name = shard_name s in
    let old : (t : ShardModel) × (get kept k ≡ Some t) × (shard_name t ≡ name) = kept_named name (get kept k) (x.there name k (sym e)) in
    let l : k < next = x.below k old.0 old.1 in
    let differ : k ≢ next = λ same. omega (arith, l, same) in
    let gone : IsIndexed (remove kept k) (remove by_name name) (unlisted listed k (get kept k)) next = gone_index kept by_name listed next name k x (sym e) in
    let added : IsIndexed (insert (remove kept k) next s) (insert (remove by_name name) name next) (with_pairs (unlisted listed k (get kept k)) s.files next) (next + 1)
    = added_index (remove kept k) (remove by_name name) (unlisted listed k (get kept k)) next s gone (name_gone_same by_name name) in
    let pairs : unlisted (with_pairs listed s.files next) k (get (insert kept next s) k) ≡ with_pairs (unlisted listed k (get kept k)) s.files next
    = ap (unlisted (with_pairs listed s.files next) k) (put_other kept next k s differ ∙ old.1) ∙ swapped_pairs listed s old.0 k next differ ∙ sym (ap (λ o. with_pairs (unlisted listed k o) s.files next) old.1) in
    record {
      index = subst (λ (m : Kept). IsIndexed m (insert by_name name next) (unlisted (with_pairs listed s.files next) k (get (insert kept next s) k)) (next + 1)) (sym (swapped_kept kept k next s differ))
          (subst (λ (n : Names). IsIndexed (insert (remove kept k) next s) n (unlisted (with_pairs listed s.files next) k (get (insert kept next s) k)) (next + 1)) (sym (put_again by_name name next))
          (subst (λ (p : Listed). IsIndexed (insert (remove kept k) next s) (insert (remove by_name name) name next) p (next + 1)) (sym pairs) added));
      order = ap in_order (swapped_kept kept k next s differ)
          ∙ put_last (remove kept k) (remove by_name name) (unlisted listed k (get kept k)) next s gone
          ∙ ap (λ (ss : List ShardModel). ss ++ s ∷ []) (taken_out kept by_name listed next name k x (sym e));
    }

-- ---- what is looked up

pub empty_index : IsIndexed empty empty empty 0
empty_index = record {
  below = λ k s g. none_some (get empty k) s (get-empty nat_cmp k) g;
  named = λ k s g. none_some (get empty k) s (get-empty nat_cmp k) g;
  there = λ name k g. none_some (get empty name) k (get-empty hash_cmp name) g;
  pairs = λ file k h. (let s = some_of (get empty (file, k)) h in none_some (get empty (file, k)) s.0 (get-empty pair_cmp (file, k)) s.1);
  all = λ file k s g l. none_some (get empty k) s (get-empty nat_cmp k) g;
}

-- the shard under the last pair of a file
pub last_at : (kept : Kept) (by_name : Names) (listed : Listed) (next : ℕ) (file : List ℕ) (k : ℕ) (u : Unit {0}) → IsIndexed kept by_name listed next → IsLastBelow listed file next (Some (k, u)) → get kept k ≡ last_shard (in_order kept) file
last_at kept by_name listed next file k u x last =
    let s = kept_listing file (get kept k) (x.pairs file k (subst IsSome (sym last.1) refl)) in
    s.1 ∙ sym (last_in (entries kept) file k s.0 (entries_sorted kept) (sym (get-entries kept k) ∙ s.1) s.2 (λ j t after g l.
    (let at : get kept j ≡ Some t = get-entries kept j ∙ g in
    let p = some_of (get listed (file, j)) (x.all file j t at l) in
    none_some (get listed (file, j)) p.0 (last.2 j (omega (arith, after)) (x.below j t at)) p.1)))

-- where a file has no pair, no shard lists it
pub last_nowhere : (kept : Kept) (by_name : Names) (listed : Listed) (next : ℕ) (file : List ℕ) → IsIndexed kept by_name listed next → IsLastBelow listed file next None → last_shard (in_order kept) file ≡ None
last_nowhere kept by_name listed next file x last =
    none_lists (entries kept) file (each_entry (λ e. lists e.1 file ≡ false) kept (λ j t g. unlisting t file (λ l.
    (let p = some_of (get listed (file, j)) (x.all file j t g l) in
    none_some (get listed (file, j)) p.0 (last j (omega arith) (x.below j t g)) p.1))))

-- no shards
pub empty_order : in_order empty ≡ []
empty_order = ap shards_of (no_entries (entries empty) (sym (len-entries empty) ∙ len-empty nat_cmp ShardModel))
  where
    no_entries : (es : List Entry) → length es ≡ 0 → es ≡ []
    no_entries [] e = refl
    no_entries (x ∷ es) e = let no : ⊥ = omega (arith, e) in absurd no

-- what an acceptance leaves
pub settles : (kept : Kept) (by_name : Names) (listed : Listed) (next : ℕ) (s : ShardModel) (earlier : Option ℕ) → IsIndexed kept by_name listed next → earlier ≡ get by_name (shard_name s)
    → (kept_now : Kept) (names_now : Names) (listed_now : Listed) → kept_now ≡ kept_after kept next s earlier → names_now ≡ insert by_name (shard_name s) next → listed_now ≡ listed_after kept listed next s earlier
    → IsIndexed kept_now names_now listed_now (next + 1) × (in_order kept_now ≡ with_shard (in_order kept) s)
settles kept by_name listed next s earlier x e kept_now names_now listed_now a b c =
    let all = accepts kept by_name listed next s earlier x e in (
      subst (λ (m : Kept). IsIndexed m names_now listed_now (next + 1)) (sym a)
          (subst (λ (n : Names). IsIndexed (kept_after kept next s earlier) n listed_now (next + 1)) (sym b)
          (subst (λ (p : Listed). IsIndexed (kept_after kept next s earlier) (insert by_name (shard_name s) next) p (next + 1)) (sym c) all.index)),
      ap in_order a ∙ all.order,
    )

-- what a refused acceptance leaves
pub put_back : (kept : Kept) (by_name : Names) (listed : Listed) (next : ℕ) (s : ShardModel) → IsIndexed kept by_name listed next → remove (insert kept next s) next ≡ kept
put_back kept by_name listed next s x = same_map nat_cmp_total nat_cmp-IsAntisymmetric (remove (insert kept next s) next) kept (λ j.
    elim (number_cases j next) as (λ _. get (remove (insert kept next s) next) j ≡ get kept j) [
      | inl same ↦ ap (get (remove (insert kept next s) next)) same ∙ gone_same (insert kept next s) next ∙ sym (ap (get kept) same ∙ next_is_free kept by_name listed next x)
      | inr differ ↦ gone_other (insert kept next s) next j differ ∙ put_other kept next j s differ
    ])

-- a name that has no serial number is no name more
pub unnamed_same : (names : Names) (name : List ℕ) → get names name ≡ None → remove names name ≡ names
unnamed_same names name none = same_map hash_total hash_exact (remove names name) names (λ q.
    elim (name_cases q name) as (λ _. get (remove names name) q ≡ get names q) [
      | inl same ↦ ap (get (remove names name)) same ∙ name_gone_same names name ∙ sym (ap (get names) same ∙ none)
      | inr differ ↦ name_gone_other names name q differ
    ])

-- a name that has a serial number is a shard's
pub named_there : (kept : Kept) (by_name : Names) (listed : Listed) (next : ℕ) (name : List ℕ) (k : ℕ) → IsIndexed kept by_name listed next → get by_name name ≡ Some k → is_some (shard_named (in_order kept) name) ≡ true
named_there kept by_name listed next name k x e =
    let s = kept_named name (get kept k) (x.there name k e) in
    ap is_some (named_at kept by_name listed next name k x e ∙ s.1)
