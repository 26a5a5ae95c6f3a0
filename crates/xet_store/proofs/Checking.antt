-- What the checks of the store in memory answer.
use Rattle.std.proofs.Common.{◌≡◌, ◌∙◌, ℕ, ◌||◌, ◌&&◌, cond, not, true, false, Bool, List, [], ◌∷◌, map, length, Option, Some, None, refl, sym, ap, subst}
use Rattle.std.specs.Prelude.{filter}
use Rattle.std.specs.Option.{is_some, option_map}
use Rattle.std.specs.Ordering.{is_lt, eq_by_cmp}
use Rattle.std.specs.declared.cmp.Ordering.{Ordering}
use Rattle.std.specs.List.{fold, flat_map, list_any, list_all}
use Rattle.std.specs.FinMap.{FinMap, get, insert, keys, get-empty, get-insert, contains_key-keys}
use Rattle.std.specs.FinMap as finmap
use Rattle.std.proofs.lemmas.Cmp.{tied_itself}
use lib.Pointwise.{bytes_decides}
use Rattle.xet_types.specs.Names.{hash_cmp, same_hash}
use Rattle.xet_bytes.proofs.Maps.{hash_total}
use Rattle.xet_shard.specs.declared.listing.Segment.{Segment}
use Rattle.xet_shard.specs.Values.{Listing, ListedXorb}
use Rattle.xet_shard.specs.Listings.{ShardModel}
use Rattle.xet_shard.specs.Canonical.{shard_name}
use Rattle.xet_store.specs.StoreModel.{StoreModel, Chunks, Hashes}
use Rattle.xet_store.specs.Lists.{is_shown, set_with, set_of}
use Rattle.xet_store.specs.Checks.{Counted, lesser, counted_by, count_in, least_count, fits_count, fits, all_fit, is_among, named_xorbs, listed_xorbs, is_reached, is_held}
use Rattle.xet_store.specs.Checking.{parts, Counts, is_noted, noted, noted_all, noted_in, has_chunks, fits_noted, files_fit, lists_one, is_reached_by}
use Rattle.xet_store.proofs.Sets.{same_by_cmp, has-set_with, has-set_of}

-- ---- tests of lists

pub all_same : {X : Type 0} (p q : X → Bool) → ((x : X) → p x ≡ q x) → (xs : List X) → list_all p xs ≡ list_all q xs
all_same p q e [] = refl
all_same p q e (x ∷ xs) = ap (λ b. b && list_all p xs) (e x) ∙ ap (λ b. q x && b) (all_same p q e xs)

pub any_same : {X : Type 0} (p q : X → Bool) → ((x : X) → p x ≡ q x) → (xs : List X) → list_any p xs ≡ list_any q xs
any_same p q e [] = refl
any_same p q e (x ∷ xs) = ap (λ b. b || list_any p xs) (e x) ∙ ap (λ b. q x || b) (any_same p q e xs)

-- all of those that are left, or each is left out or passes
pub all_filter : {X : Type 0} (q p : X → Bool) (xs : List X) → list_all p (filter q xs) ≡ list_all (λ x. not (q x) || p x) xs
all_filter q p [] = refl
all_filter q p (x ∷ xs) = elim (q x) as (λ b. list_all p (cond b (x ∷ filter q xs) (filter q xs)) ≡ ((not b || p x) && list_all (λ x. not (q x) || p x) xs)) [
  | true ↦ ap (λ b. p x && b) (all_filter q p xs)
  | false ↦ all_filter q p xs
]

-- ---- the counts of xorbs

lesser_none : (o : Option Counted) → lesser o None ≡ o
lesser_none None = refl
lesser_none (Some a) = refl

-- what was noted is kept where its name isn't greater
keeps_least : (o : Option Counted) (name : List ℕ) (n : ℕ) → is_noted name o ≡ true → lesser o (Some (name, n)) ≡ o
keeps_least None name n e = let no : ⊥ = cc in absurd no
keeps_least (Some a) name n e = elim (is_lt (hash_cmp name a.0)) as (λ b. not b ≡ true → cond b (Some (name, n)) (Some a) ≡ Some a) [
  | true ↦ λ e. (let no : ⊥ = cc in absurd no)
  | false ↦ λ e. refl
] e

takes_new : (o : Option Counted) (name : List ℕ) (n : ℕ) → is_noted name o ≡ false → Some (name, n) ≡ lesser o (Some (name, n))
takes_new None name n e = refl
takes_new (Some a) name n e = elim (is_lt (hash_cmp name a.0)) as (λ b. not b ≡ false → Some (name, n) ≡ cond b (Some (name, n)) (Some a)) [
  | true ↦ λ e. refl
  | false ↦ λ e. (let no : ⊥ = cc in absurd no)
] e

not_below_itself : (name : List ℕ) → is_lt (hash_cmp name name) ≡ false
not_below_itself name = ap is_lt (tied_itself hash_total name)

-- of two listings of one shard the first counts
again : (name : List ℕ) (o : Option Counted) (n : ℕ) (c : Option ℕ) → lesser (lesser o (Some (name, n))) (option_map (λ k. (name, k)) c) ≡ lesser o (Some (name, n))
again name o n None = lesser_none (lesser o (Some (name, n)))
again name None n (Some k) = ap (λ b. cond b (Some (name, k)) (Some (name, n))) (not_below_itself name)
again name (Some a) n (Some k) = elim (is_lt (hash_cmp name a.0)) as (λ b. is_lt (hash_cmp name a.0) ≡ b → lesser (cond b (Some (name, n)) (Some a)) (Some (name, k)) ≡ cond b (Some (name, n)) (Some a)) [
  | true ↦ λ e. ap (λ b. cond b (Some (name, k)) (Some (name, n))) (not_below_itself name)
  | false ↦ λ e. ap (λ b. cond b (Some (name, k)) (Some a)) e
] refl

get-noted : (counts : Counts) (name : List ℕ) (x : ListedXorb) (h : List ℕ) → get (noted name counts x) h ≡ cond (same_hash x.xorb_hash h) (lesser (get counts h) (Some (name, length x.chunks))) (get counts h)
get-noted counts name x h =
    elim (is_noted name (get counts x.xorb_hash)) as (λ b. is_noted name (get counts x.xorb_hash) ≡ b → get (cond b counts (insert counts x.xorb_hash (name, length x.chunks))) h ≡ cond (same_hash x.xorb_hash h) (lesser (get counts h) (Some (name, length x.chunks))) (get counts h)) [
      | true ↦ λ e. kept (same_hash x.xorb_hash h) refl e
      | false ↦ λ e. get-insert hash_total counts x.xorb_hash (name, length x.chunks) h ∙ ap (λ b. cond b (Some (name, length x.chunks)) (get counts h)) (same_by_cmp h x.xorb_hash) ∙ put (same_hash x.xorb_hash h) refl e
    ] refl
  where
    here : same_hash x.xorb_hash h ≡ true → get counts x.xorb_hash ≡ get counts h
    here e = ap (get counts) ((bytes_decides x.xorb_hash h).0 e)

    kept : (s : Bool) → same_hash x.xorb_hash h ≡ s → is_noted name (get counts x.xorb_hash) ≡ true → get counts h ≡ cond s (lesser (get counts h) (Some (name, length x.chunks))) (get counts h)
    kept true s e = sym (keeps_least (get counts h) name (length x.chunks) (ap (is_noted name) (sym (here s)) ∙ e))
    kept false s e = refl

    put : (s : Bool) → same_hash x.xorb_hash h ≡ s → is_noted name (get counts x.xorb_hash) ≡ false → cond s (Some (name, length x.chunks)) (get counts h) ≡ cond s (lesser (get counts h) (Some (name, length x.chunks))) (get counts h)
    put true s e = takes_new (get counts h) name (length x.chunks) (ap (is_noted name) (sym (here s)) ∙ e)
    put false s e = refl

get-noted_all : (counts : Counts) (name : List ℕ) (xorbs : List ListedXorb) (h : List ℕ) → get (noted_all counts name xorbs) h ≡ lesser (get counts h) (counted_by name xorbs h)
get-noted_all counts name [] h = sym (lesser_none (get counts h))
get-noted_all counts name (x ∷ xs) h =
    get-noted_all (noted name counts x) name xs h
    ∙ ap (λ (o : Option Counted). lesser o (counted_by name xs h)) (get-noted counts name x h)
    ∙ elim (same_hash x.xorb_hash h) as (λ b. lesser (cond b (lesser (get counts h) (Some (name, length x.chunks))) (get counts h)) (option_map (λ n. (name, n)) (count_in xs h)) ≡ lesser (get counts h) (option_map (λ n. (name, n)) (cond b (Some (length x.chunks)) (count_in xs h)))) [
      | true ↦ again name (get counts h) (length x.chunks) (count_in xs h)
      | false ↦ refl
    ]

abbrev lesser_by : List ℕ → Option Counted → ShardModel → Option Counted
lesser_by h o s = lesser o (counted_by (shard_name s) s.xorbs h)

get-noted_in : (counts : Counts) (shards : List ShardModel) (h : List ℕ) → get (fold noted_in counts shards) h ≡ fold (lesser_by h) (get counts h) shards
get-noted_in counts [] h = refl
get-noted_in counts (s ∷ ss) h = get-noted_in (noted_in counts s) ss h ∙ ap (λ (o : Option Counted). fold (lesser_by h) o ss) (get-noted_all counts (shard_name s) s.xorbs h)

module _ (xorbs : FinMap hash_cmp Chunks) (shards : List ShardModel) (hidden : Hashes) where
  fit_same : (g : Segment) (o : Option Counted) → has_chunks xorbs g o ≡ fits_count (parts xorbs shards hidden) g o
  fit_same g None = refl
  fit_same g (Some counted) = refl

  fits_same : (g : Segment) → fits_noted (fold noted_in finmap.empty shards) xorbs g ≡ fits (parts xorbs shards hidden) g
  fits_same g =
      ap (has_chunks xorbs g) (get-noted_in finmap.empty shards g.xorb_hash ∙ ap (λ (o : Option Counted). fold (lesser_by g.xorb_hash) o shards) (get-empty hash_cmp g.xorb_hash))
      ∙ fit_same g (least_count shards g.xorb_hash)

  files_fit_same : (files : List Listing) → files_fit (fold noted_in finmap.empty shards) xorbs hidden files ≡ list_all (λ f. list_all (fits (parts xorbs shards hidden)) f.segments) (filter (is_shown hidden) files)
  files_fit_same files =
      all_same (λ f. not (is_shown hidden f) || list_all (fits_noted (fold noted_in finmap.empty shards) xorbs) f.segments) (λ f. not (is_shown hidden f) || list_all (fits (parts xorbs shards hidden)) f.segments)
      (λ f. ap (λ b. not (is_shown hidden f) || b) (all_same (fits_noted (fold noted_in finmap.empty shards) xorbs) (fits (parts xorbs shards hidden)) fits_same f.segments)) files
      ∙ sym (all_filter (is_shown hidden) (λ f. list_all (fits (parts xorbs shards hidden)) f.segments) files)

  pub all_fit_same : list_all (λ s. files_fit (fold noted_in finmap.empty shards) xorbs hidden s.files) shards ≡ list_all (all_fit (parts xorbs shards hidden)) shards
  all_fit_same = all_same (λ s. files_fit (fold noted_in finmap.empty shards) xorbs hidden s.files) (all_fit (parts xorbs shards hidden)) (λ s. files_fit_same s.files) shards

  -- ---- reachability

  reached_same : (s : ShardModel) → is_reached_by (set_of (named_xorbs (parts xorbs shards hidden))) hidden s ≡ is_reached (parts xorbs shards hidden) s
  reached_same s = ap (λ b. list_any (is_shown hidden) s.files || b)
      (any_same (λ x. is_some (get (set_of (named_xorbs (parts xorbs shards hidden))) x.xorb_hash)) (λ x. is_among (named_xorbs (parts xorbs shards hidden)) x.xorb_hash) (λ x. has-set_of (named_xorbs (parts xorbs shards hidden)) x.xorb_hash) s.xorbs)

  pub all_reached_same : list_all (is_reached_by (set_of (named_xorbs (parts xorbs shards hidden))) hidden) shards ≡ list_all (is_reached (parts xorbs shards hidden)) shards
  all_reached_same = all_same (is_reached_by (set_of (named_xorbs (parts xorbs shards hidden))) hidden) (is_reached (parts xorbs shards hidden)) reached_same shards

  held_same : (h : List ℕ) → is_some (get (set_with (set_of (named_xorbs (parts xorbs shards hidden))) (listed_xorbs (parts xorbs shards hidden))) h) ≡ is_held (parts xorbs shards hidden) h
  held_same h =
      has-set_with (set_of (named_xorbs (parts xorbs shards hidden))) (listed_xorbs (parts xorbs shards hidden)) h
      ∙ ap (λ b. b || is_among (listed_xorbs (parts xorbs shards hidden)) h) (has-set_of (named_xorbs (parts xorbs shards hidden)) h)

  pub all_held_same : (hashes : List (List ℕ)) → list_all (λ h. is_some (get (set_with (set_of (named_xorbs (parts xorbs shards hidden))) (listed_xorbs (parts xorbs shards hidden))) h)) hashes ≡ list_all (is_held (parts xorbs shards hidden)) hashes
  all_held_same hashes = all_same (λ h. is_some (get (set_with (set_of (named_xorbs (parts xorbs shards hidden))) (listed_xorbs (parts xorbs shards hidden))) h)) (is_held (parts xorbs shards hidden)) held_same hashes

-- ---- tests of the hashes of a set

bool_same : (a b : Bool) → (a ≡ true → b ≡ true) → (b ≡ true → a ≡ true) → a ≡ b
bool_same true b f g = sym (f refl)
bool_same false true f g = g refl
bool_same false false f g = refl

both_true : (a b : Bool) → (a && b) ≡ true → (a ≡ true) × (b ≡ true)
both_true true b e = (refl, e)
both_true false b e = let no : ⊥ = cc in absurd no

-- what holds of all holds of each that is among them
pub all_from : (p : List ℕ → Bool) (xs : List (List ℕ)) (q : List ℕ) → list_all p xs ≡ true → is_among xs q ≡ true → p q ≡ true
all_from p [] q e h = let no : ⊥ = cc in absurd no
all_from p (x ∷ xs) q e h =
    let two = both_true (p x) (list_all p xs) e in
    elim (same_hash x q) as (λ b. same_hash x q ≡ b → (b || is_among xs q) ≡ true → p q ≡ true) [
      | true ↦ λ s h. subst (λ y. p y ≡ true) ((bytes_decides x q).0 s) two.0
      | false ↦ λ s h. all_from p xs q two.1 h
    ] refl h

or_left : (a b : Bool) → a ≡ true → (a || b) ≡ true
or_left true b e = refl
or_left false b e = let no : ⊥ = cc in absurd no

or_right : (a b : Bool) → b ≡ true → (a || b) ≡ true
or_right true b e = refl
or_right false b e = e

all_to : (p : List ℕ → Bool) (xs : List (List ℕ)) → ((q : List ℕ) → is_among xs q ≡ true → p q ≡ true) → list_all p xs ≡ true
all_to p [] f = refl
all_to p (x ∷ xs) f =
    ap (λ b. b && list_all p xs) (f x (or_left (same_hash x x) (is_among xs x) ((bytes_decides x x).1 refl)))
    ∙ all_to p xs (λ q h. f q (or_right (same_hash x q) (is_among xs q) h))

among_keys : (m : Hashes) (q : List ℕ) → is_among (keys m) q ≡ is_some (get m q)
among_keys m q = any_same (λ h. same_hash h q) (eq_by_cmp hash_cmp q) (λ h. sym (same_by_cmp q h)) (keys m) ∙ sym (contains_key-keys m q)

-- what holds of each hash of a list holds of each of its set
pub all_of_set : (p : List ℕ → Bool) (hashes : List (List ℕ)) → list_all p (keys (set_of hashes)) ≡ list_all p hashes
all_of_set p hashes =
    let same : (q : List ℕ) → is_among (keys (set_of hashes)) q ≡ is_among hashes q = λ q. among_keys (set_of hashes) q ∙ has-set_of hashes q in
    bool_same (list_all p (keys (set_of hashes))) (list_all p hashes)
    (λ e. all_to p hashes (λ q h. all_from p (keys (set_of hashes)) q e (same q ∙ h)))
    (λ e. all_to p (keys (set_of hashes)) (λ q h. all_from p hashes q e (sym (same q) ∙ h)))
