-- Where all files are readable, no met segment has a fault.
use Rattle.std.proofs.Common.{◌≡◌, ◌∙◌, ℕ, ◌+◌, ◌<◌, ◌||◌, ◌&&◌, ◌==◌, cond, not, true, false, Bool, min, max, nat_lt, List, [], ◌∷◌, ◌++◌, map, Option, Some, None, refl, sym, ap, subst, arith}
use Rattle.std.specs.Option.{is_some, option_and_then}
use Rattle.std.specs.List.{flat_map, list_any, list_all}
use Rattle.std.proofs.lemmas.Bool.{eqb-true, ltb-true}
use Rattle.xet_types.specs.Names.{same_hash}
use Rattle.xet_types.specs.declared.error.Refusal.{Refusal}
use Rattle.xet_bytes.proofs.Maps.{some_is}
use Rattle.xet_shard.specs.declared.listing.Segment.{Segment}
use Rattle.xet_shard.specs.Values.{Listing, listed_length, size_of}
use Rattle.xet_shard.specs.Listings.{ShardModel}
use Rattle.xet_plan.specs.Places.{Interval, Known, Placed, place, placed, meets, met_from, fault, or_else, first_of, first_fault}
use Rattle.xet_store.specs.StoreModel.{StoreModel, listed_in, lists, last_shard, is_hidden, live, listing, known_of}
use Rattle.xet_store.specs.StoreModel as store
use Rattle.xet_store.specs.Checks.{is_among, is_readable, all_readable, files_in, listed_files, readable}
use Rattle.xet_store.proofs.Checking.{all_from}

-- ---- met segments

met_some : (clip : Interval) (at n : ℕ) → meets clip at n ≡ true → (n == 0) ≡ false
met_some clip at n e =
    let lt : max clip.start at < min clip.end (at + n) = ltb-true (max clip.start at) (min clip.end (at + n)) e in
    elim (n == 0) as (λ b. (n == 0) ≡ b → b ≡ false) [
      | true ↦ λ z. (let none : n ≡ 0 = eqb-true n 0 z in absurd (omega (arith, lt, none)))
      | false ↦ λ z. refl
    ] refl

no_fault : (o : Option Refusal) → not (is_some o) ≡ true → o ≡ None
no_fault None e = refl
no_fault (Some why) e = let no : ⊥ = cc in absurd no

right_of : (a b : Bool) → a ≡ false → (a || b) ≡ true → b ≡ true
right_of true b f e = let no : ⊥ = cc in absurd no
right_of false b f e = e

both_true : (a b : Bool) → (a && b) ≡ true → (a ≡ true) × (b ≡ true)
both_true true b e = (refl, e)
both_true false b e = let no : ⊥ = cc in absurd no

met_faultless : (m : StoreModel) (clip : Interval) (at : ℕ) (segments : List Segment) → list_all (is_readable m) segments ≡ true → first_of (known_of m) (met_from clip at segments) ≡ None
met_faultless m clip at [] e = refl
met_faultless m clip at (s ∷ ss) e =
    let two = both_true (is_readable m s) (list_all (is_readable m) ss) e in
    let rest : first_of (known_of m) (met_from clip (at + listed_length s) ss) ≡ None = met_faultless m clip (at + listed_length s) ss two.1 in
    elim (meets clip at (listed_length s)) as (λ b. meets clip at (listed_length s) ≡ b → first_of (known_of m) (cond b (place at s ∷ met_from clip (at + listed_length s) ss) (met_from clip (at + listed_length s) ss)) ≡ None) [
      | true ↦ λ met. ap (λ (o : Option Refusal). or_else o (first_of (known_of m) (met_from clip (at + listed_length s) ss)))
          (no_fault (fault (known_of m) s) (right_of (listed_length s == 0) (not (is_some (fault (known_of m) s))) (met_some clip at (listed_length s) met) two.0)) ∙ rest
      | false ↦ λ met. rest
    ] refl

-- ---- live files

among_append : (xs ys : List (List ℕ)) (q : List ℕ) → is_among (xs ++ ys) q ≡ (is_among xs q || is_among ys q)
among_append [] ys q = refl
among_append (x ∷ xs) ys q = elim (same_hash x q) as (λ b. (b || is_among (xs ++ ys) q) ≡ ((b || is_among xs q) || is_among ys q)) [ true ↦ refl | false ↦ among_append xs ys q ]

among_files : (files : List Listing) (q : List ℕ) → is_among (map (λ f. f.file_hash) files) q ≡ is_some (listed_in files q)
among_files [] q = refl
among_files (f ∷ fs) q = elim (same_hash f.file_hash q) as (λ b. (b || is_among (map (λ f. f.file_hash) fs) q) ≡ is_some (cond b (Some f.segments) (listed_in fs q))) [ true ↦ refl | false ↦ among_files fs q ]

or_true : (a b : Bool) → b ≡ true → (a || b) ≡ true
or_true true b e = refl
or_true false b e = e

or_true_left : (a b : Bool) → a ≡ true → (a || b) ≡ true
or_true_left true b e = refl
or_true_left false b e = let no : ⊥ = cc in absurd no

last_among : (ss : List ShardModel) (q : List ℕ) (t : ShardModel) → last_shard ss q ≡ Some t → is_among (flat_map files_in ss) q ≡ true
last_among [] q t e = let no : ⊥ = cc in absurd no
last_among (s ∷ ss) q t e = among_append (files_in s) (flat_map files_in ss) q ∙ by (λ u. last_among ss q u) (last_shard ss q) refl e
  where
    here : (b : Bool) → is_some (listed_in s.files q) ≡ b → cond b (Some s) None ≡ Some t → (is_among (files_in s) q || is_among (flat_map files_in ss) q) ≡ true
    here true e g = or_true_left (is_among (files_in s) q) (is_among (flat_map files_in ss) q) (among_files s.files q ∙ e)
    here false e g = let no : ⊥ = cc in absurd no

    by : ((u : ShardModel) → last_shard ss q ≡ Some u → is_among (flat_map files_in ss) q ≡ true) → (o : Option ShardModel) → last_shard ss q ≡ o → store.or_else o (cond (lists s q) (Some s) None) ≡ Some t → (is_among (files_in s) q || is_among (flat_map files_in ss) q) ≡ true
    by rest (Some u) e g = or_true (is_among (files_in s) q) (is_among (flat_map files_in ss) q) (rest u e)
    by rest None e g = here (lists s q) refl g

live_listed : (m : StoreModel) (file : List ℕ) (segments : List Segment) → listing m file ≡ Some segments → is_among (listed_files m) file ≡ true
live_listed m file segments e = by (is_hidden m file) e
  where
    of : (o : Option ShardModel) → last_shard m.shards file ≡ o → option_and_then (λ s. listed_in s.files file) o ≡ Some segments → is_among (listed_files m) file ≡ true
    of None e g = let no : ⊥ = cc in absurd no
    of (Some s) e g = last_among m.shards file s e

    by : (b : Bool) → option_and_then (λ s. listed_in s.files file) (cond b None (last_shard m.shards file)) ≡ Some segments → is_among (listed_files m) file ≡ true
    by true g = let no : ⊥ = cc in absurd no
    by false g = of (last_shard m.shards file) refl g

-- the segments that an interval of a live file meets have no fault
pub readable_faultless : (m : StoreModel) (file : List ℕ) (segments : List Segment) (clip : Interval) → readable m ≡ true → listing m file ≡ Some segments → first_fault (known_of m) clip segments ≡ None
readable_faultless m file segments clip holds live =
    let each : all_readable m (listing m file) ≡ true = all_from (λ f. all_readable m (listing m f)) (listed_files m) file holds (live_listed m file segments live) in
    met_faultless m clip 0 segments (ap (all_readable m) (sym live) ∙ each)
