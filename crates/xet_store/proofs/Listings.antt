-- The pairs of files and the shards that list them.
use Rattle.std.proofs.Common.{◌≡◌, ◌∙◌, ℕ, zero, suc, arith, rules, ◌&&◌, nat_eq, cond, true, false, Bool, List, [], ◌∷◌, take, length, Option, Some, None, refl, sym, ap, Ordering}
use Rattle.std.specs.Option.{is_some}
use Rattle.std.specs.FinMap.{get, insert, remove, get-insert, get-remove, same_map}
use Rattle.std.specs.Ordering.{is_eq, nat_cmp, ordering_then, eq_by_cmp}
use Rattle.std.specs.declared.cmp.Ordering.TheVariants.{Less, Equal, Greater}
use Rattle.std.proofs.lemmas.Map.Text.{is_eq-slice_cmp}
use Rattle.std.proofs.lemmas.Bool.{eqb-true}
use Rattle.std.proofs.lemmas.List.{take_all}
use lib.Pointwise.{bytes_decides}
use Rattle.xet_types.specs.Names.{hash_cmp, same_hash}
use Rattle.xet_bytes.specs.Pairs.{Pair, pair_cmp}
use Rattle.xet_bytes.proofs.Pairs.{pair_total, pair_exact}
use Rattle.xet_shard.specs.Values.{Listing}
use Rattle.xet_store.specs.StoreModel.{listed_in}
use Rattle.xet_store.specs.Indexed.{Listed, with_pairs, without_pairs, AddsSome, IsFresh}

-- whether the file is among the listed ones
abbrev pub has_file : List Listing → List ℕ → Bool
has_file files file = is_some (listed_in files file)

-- whether a pair is one of these files and the serial number
abbrev pub is_pair : List Listing → ℕ → Pair → Bool
is_pair files serial q = nat_eq q.1 serial && has_file files q.0

-- ---- texts and numbers

pub same_turned : (a b : List ℕ) → same_hash a b ≡ same_hash b a
same_turned a b =
    let by : (s t : Bool) → same_hash a b ≡ s → same_hash b a ≡ t → s ≡ t
    = λ s t. elim s as (λ s. same_hash a b ≡ s → same_hash b a ≡ t → s ≡ t) [
      | true ↦ λ p q. sym ((bytes_decides b a).1 (sym ((bytes_decides a b).0 p))) ∙ q
      | false ↦ (elim t as (λ t. same_hash a b ≡ false → same_hash b a ≡ t → false ≡ t) [
        | true ↦ λ p q. sym p ∙ (bytes_decides a b).1 (sym ((bytes_decides b a).0 q))
        | false ↦ λ p q. refl
      ])
    ] in
    by (same_hash a b) (same_hash b a) refl refl

ties : (m n : ℕ) → is_eq (nat_cmp m n) ≡ nat_eq m n
ties m n = search rules

then_eq : (r s : Ordering) → is_eq (ordering_then r s) ≡ (is_eq s && is_eq r)
then_eq Less Less = refl
then_eq Less Equal = refl
then_eq Less Greater = refl
then_eq Equal Less = refl
then_eq Equal Equal = refl
then_eq Equal Greater = refl
then_eq Greater Less = refl
then_eq Greater Equal = refl
then_eq Greater Greater = refl

same_pair : (q : Pair) (h : List ℕ) (serial : ℕ) → eq_by_cmp pair_cmp q (h, serial) ≡ (nat_eq q.1 serial && same_hash h q.0)
same_pair q h serial =
    then_eq (hash_cmp q.0 h) (nat_cmp q.1 serial)
    ∙ ap (λ b. b && is_eq (hash_cmp q.0 h)) (ties q.1 serial)
    ∙ ap (λ b. nat_eq q.1 serial && b) (is_eq-slice_cmp q.0 h ∙ same_turned q.0 h)

-- ---- pairs that are put in and taken out

-- of a listed file twice, or first, or later
one_more : {X Y : Type 0} (n same : Bool) (x y z : X) (segments : Y) (o : Option Y) → x ≡ z → cond (n && is_some o) x (cond (n && same) z y) ≡ cond (n && is_some (cond same (Some segments) o)) x y
one_more false same x y z segments o e = refl
one_more true false x y z segments o e = refl
one_more true true x y z segments None e = sym e
one_more true true x y z segments (Some s) e = refl

pub get-with_pairs : (m : Listed) (files : List Listing) (serial : ℕ) (q : Pair) → get (with_pairs m files serial) q ≡ cond (is_pair files serial q) (Some tt) (get m q)
get-with_pairs m [] serial q = elim (nat_eq q.1 serial) as (λ b. get m q ≡ cond (b && false) (Some tt) (get m q)) [ true ↦ refl | false ↦ refl ]
get-with_pairs m (f ∷ fs) serial q =
    get-with_pairs (insert m (f.file_hash, serial) tt) fs serial q
    ∙ ap (λ o. cond (is_pair fs serial q) (Some tt) o) (get-insert pair_total m (f.file_hash, serial) tt q ∙ ap (λ b. cond b (Some tt) (get m q)) (same_pair q f.file_hash serial))
    ∙ one_more (nat_eq q.1 serial) (same_hash f.file_hash q.0) (Some tt) (get m q) (Some tt) f.segments (listed_in fs q.0) refl

pub get-without_pairs : (m : Listed) (files : List Listing) (serial : ℕ) (q : Pair) → get (without_pairs m files serial) q ≡ cond (is_pair files serial q) None (get m q)
get-without_pairs m [] serial q = elim (nat_eq q.1 serial) as (λ b. get m q ≡ cond (b && false) None (get m q)) [ true ↦ refl | false ↦ refl ]
get-without_pairs m (f ∷ fs) serial q =
    get-without_pairs (remove m (f.file_hash, serial)) fs serial q
    ∙ ap (λ o. cond (is_pair fs serial q) None o) (get-remove pair_total m (f.file_hash, serial) q ∙ ap (λ b. cond b None (get m q)) (same_pair q f.file_hash serial))
    ∙ one_more (nat_eq q.1 serial) (same_hash f.file_hash q.0) None (get m q) None f.segments (listed_in fs q.0) refl

-- ---- some pairs taken back

-- a file that is among the first ones is among all
some_has : {Y : Type 0} (same : Bool) (s : Y) (o p : Option Y) → (is_some o ≡ true → is_some p ≡ true) → is_some (cond same (Some s) o) ≡ true → is_some (cond same (Some s) p) ≡ true
some_has true s o p f e = refl
some_has false s o p f e = f e

has_first : (n : ℕ) (files : List Listing) (file : List ℕ) → has_file (take n files) file ≡ true → has_file files file ≡ true
has_first zero [] file e = e
has_first (suc n) [] file e = e
has_first zero (f ∷ fs) file e = let no : ⊥ = cc in absurd no
has_first (suc n) (f ∷ fs) file e = some_has (same_hash f.file_hash file) f.segments (listed_in (take n fs) file) (listed_in fs file) (has_first n fs file) e

back : (n now all : Bool) (o : Option (Unit {0})) → (n ≡ true → o ≡ None) → (now ≡ true → all ≡ true) → cond (n && all) None (cond (n && now) (Some tt) o) ≡ o
back false now all o fresh sub = refl
back true now true o fresh sub = sym (fresh refl)
back true false false o fresh sub = refl
back true true false o fresh sub = let e : false ≡ true = sub refl in let no : ⊥ = cc in absurd no

-- what was added of a new serial number is taken out again
pub taken_back : (old new : Listed) (files : List Listing) (serial : ℕ) → IsFresh old serial → AddsSome old files serial new → without_pairs new files serial ≡ old
taken_back old new files serial fresh adds = same_map pair_total pair_exact (without_pairs new files serial) old (λ q.
    get-without_pairs new files serial q
    ∙ ap (λ o. cond (is_pair files serial q) None o) (ap (λ (m : Listed). get m q) adds.1 ∙ get-with_pairs old (take adds.0 files) serial q)
    ∙ back (nat_eq q.1 serial) (has_file (take adds.0 files) q.0) (has_file files q.0) (get old q) (λ e. ap (λ k. get old (q.0, k)) (eqb-true q.1 serial e) ∙ fresh q.0) (has_first adds.0 files q.0))

-- and so is all
pub all_back : (old : Listed) (files : List Listing) (serial : ℕ) → IsFresh old serial → without_pairs (with_pairs old files serial) files serial ≡ old
all_back old files serial fresh = taken_back old (with_pairs old files serial) files serial fresh (length files, ap (λ (fs : List Listing). with_pairs old fs serial) (sym (take_all (length files) files (omega arith))))
