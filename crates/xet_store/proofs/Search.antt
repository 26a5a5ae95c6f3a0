-- A file among listings whose hashes rise.
use Rattle.std.proofs.Common.{◌≡◌, ◌∙◌, ℕ, zero, suc, ◌<◌, ◌≤◌, arith, cond, false, List, [], ◌∷◌, length, map, get_or, Option, Some, None, refl, sym, ap, subst, inl, inr}
use Rattle.std.specs.List.{AllByRecursion, HoldsAt}
use Rattle.std.specs.Option.{option_map}
use Rattle.std.specs.List.Sorted.{IsStrictlySortedBy, IsNonDecreasingBy, IsPartitionPoint}
use Rattle.std.specs.Ordering.{is_eq, ordering_index}
use Rattle.std.specs.declared.cmp.Ordering.TheVariants.{Less, Equal, Greater}
use Rattle.std.proofs.lemmas.Bool.{cases_lt}
use Rattle.std.proofs.lemmas.Map.Text.{is_eq-slice_cmp}
use Rattle.xet_types.specs.Names.{hash_cmp}
use Rattle.xet_bytes.proofs.Maps.{hash_total, hash_exact, some_is}
use Rattle.xet_shard.specs.declared.listing.Segment.{Segment}
use Rattle.xet_shard.specs.Values.{Listing}
use Rattle.xet_shard.specs.Canonical.{file_hash_of}
use Rattle.xet_store.specs.StoreModel.{listed_in}
use Rattle.xet_store.specs.Questions.{listed_as}

abbrev Rising : List Listing → Type 0
Rising files = IsStrictlySortedBy hash_cmp (map file_hash_of files)

abbrev pub hash_at : List Listing → ℕ → Listing → List ℕ
hash_at files k d = (get_or files k d).file_hash

abbrev pub an : Listing → Option Listing
an l = Some l

abbrev pub none_at : Option Listing
none_at = None

abbrev pub some_segments : List Segment → Option (List Segment)
some_segments segments = Some segments

-- a file whose hash isn't among them isn't listed
pub absent_by : (files : List Listing) (file : List ℕ) → ((k : ℕ) (d : Listing) → k < length files → is_eq (hash_cmp (hash_at files k d) file) ≡ false) → listed_in files file ≡ None
absent_by [] file a = refl
absent_by (f ∷ fs) file a =
    ap (λ b. cond b (Some f.segments) (listed_in fs file)) (sym (is_eq-slice_cmp f.file_hash file) ∙ a 0 f (omega arith))
    ∙ absent_by fs file (λ k d l. a (suc k) d (omega (arith, l)))

below_at : (h : List ℕ) (files : List Listing) (k : ℕ) (d : Listing) → AllByRecursion (λ q. hash_cmp h q ≡ Less) (map file_hash_of files) → k < length files → hash_cmp h (hash_at files k d) ≡ Less
below_at h [] k d a l = let no : ⊥ = omega (arith, l) in absurd no
below_at h (f ∷ fs) zero d a l = a.0
below_at h (f ∷ fs) (suc k) d a l = below_at h fs k d a.1 (omega (arith, l))

-- the one whose hash is the file's is its listing
pub found_by : (files : List Listing) (file : List ℕ) (k : ℕ) (d : Listing) → Rising files → k < length files → hash_cmp (hash_at files k d) file ≡ Equal → listed_in files file ≡ Some (get_or files k d).segments
unfolding IsStrictlySortedBy
found_by [] file k d r l e = let no : ⊥ = omega (arith, l) in absurd no
found_by (f ∷ fs) file zero d r l e = ap (λ b. cond b (Some f.segments) (listed_in fs file)) (sym (is_eq-slice_cmp f.file_hash file) ∙ ap is_eq e)
found_by (f ∷ fs) file (suc k) d r l e =
    let under : hash_cmp f.file_hash file ≡ Less = ap (hash_cmp f.file_hash) (sym (hash_exact (hash_at fs k d) file e)) ∙ below_at f.file_hash fs k d r.0 (omega (arith, l)) in
    ap (λ b. cond b (Some f.segments) (listed_in fs file)) (sym (is_eq-slice_cmp f.file_hash file) ∙ ap is_eq under) ∙ found_by fs file k d r.1 (omega (arith, l)) e

rising_at : (files : List Listing) (i j : ℕ) (d : Listing) → Rising files → i < j → j < length files → hash_cmp (hash_at files i d) (hash_at files j d) ≡ Less
unfolding IsStrictlySortedBy
rising_at [] i j d r l m = let no : ⊥ = omega (arith, m) in absurd no
rising_at (f ∷ fs) i zero d r l m = let no : ⊥ = omega (arith, l) in absurd no
rising_at (f ∷ fs) zero (suc j) d r l m = below_at f.file_hash fs j d r.0 (omega (arith, m))
rising_at (f ∷ fs) (suc i) (suc j) d r l m = rising_at fs i j d r.1 (omega (arith, l)) (omega (arith, m))

sides : (a b f : List ℕ) → hash_cmp a b ≡ Less → ordering_index (hash_cmp a f) ≤ ordering_index (hash_cmp b f)
sides a b f below =
    elim (hash_cmp b f) as (λ r. hash_cmp b f ≡ r → ordering_index (hash_cmp a f) ≤ ordering_index r) [
      | Less ↦ λ e. subst (λ r. ordering_index r ≤ 0) (sym (hash_total.trans a b f below e)) (omega arith)
      | Equal ↦ λ e. subst (λ r. ordering_index r ≤ 1) (sym (ap (hash_cmp a) (sym (hash_exact b f e)) ∙ below)) (omega arith)
      | Greater ↦ λ e. elim (hash_cmp a f) as (λ r. ordering_index r ≤ 2) [ Less ↦ omega arith | Equal ↦ omega arith | Greater ↦ omega arith ]
    ] refl

-- how the hashes compare with a file's doesn't fall
pub rises_past : (files : List Listing) (file : List ℕ) → Rising files → IsNonDecreasingBy (λ (l : Listing). ordering_index (hash_cmp l.file_hash file)) files
rises_past files file r i j d le l =
    elim (cases_lt i j) as (λ _. ordering_index (hash_cmp (hash_at files i d) file) ≤ ordering_index (hash_cmp (hash_at files j d) file)) [
      | inl m ↦ sides (hash_at files i d) (hash_at files j d) file (rising_at files i j d r m l)
      | inr m ↦ (let same : i ≡ j = omega (arith, le, m) in subst (λ k. ordering_index (hash_cmp (hash_at files i d) file) ≤ ordering_index (hash_cmp (hash_at files k d) file)) same (omega arith))
    ]

-- ---- a listing that is searched for

pub found_listing : (fs files : List Listing) (file : List ℕ) (k : ℕ) (x : Listing) → fs ≡ files → Rising files → k < length fs → x ≡ get_or fs k x → HoldsAt (λ (l : Listing). hash_cmp l.file_hash file ≡ Equal) fs k
    → an x ≡ option_map (listed_as file) (listed_in files file)
found_listing fs files file k x same rises l is here =
    let hash : x.file_hash ≡ file = ap (λ (y : Listing). y.file_hash) is ∙ hash_exact (hash_at fs k x) file (here x) in
    let listed : listed_in fs file ≡ Some x.segments = found_by fs file k x (subst Rising (sym same) rises) l (here x) ∙ ap (λ (y : Listing). some_segments y.segments) (sym is) in
    ap an (λ i. record { file_hash = hash i; segments = x.segments }) ∙ sym (ap (λ (ls : List Listing). option_map (listed_as file) (listed_in ls file)) (sym same) ∙ ap (option_map (listed_as file)) listed)

pub no_listing : (fs files : List Listing) (file : List ℕ) (n : ℕ) → fs ≡ files → Rising files → (IsNonDecreasingBy (λ (l : Listing). ordering_index (hash_cmp l.file_hash file)) fs → IsPartitionPoint (λ (l : Listing). hash_cmp l.file_hash file ≡ Less) (λ (l : Listing). hash_cmp l.file_hash file ≡ Greater) fs n)
    → none_at ≡ option_map (listed_as file) (listed_in files file)
no_listing fs files file n same rises parts =
    let p = parts (rises_past fs file (subst Rising (sym same) rises)) in
    let absent : listed_in fs file ≡ None = absent_by fs file (λ k d l.
    (elim (cases_lt k n) as (λ _. is_eq (hash_cmp (hash_at fs k d) file) ≡ false) [
      | inl m ↦ ap is_eq (p.0 k d (omega arith) m)
      | inr m ↦ ap is_eq (p.1 k d m l)
    ])) in
    sym (ap (λ (ls : List Listing). option_map (listed_as file) (listed_in ls file)) (sym same) ∙ ap (option_map (listed_as file)) absent)

-- what was found is the file's listing
pub listed_back : (file : List ℕ) (l : Listing) (o : Option (List Segment)) → an l ≡ option_map (listed_as file) o → o ≡ some_segments l.segments
listed_back file l None e = let no : ⊥ = cc in absurd no
listed_back file l (Some segments) e = ap (λ (x : Listing). some_segments x.segments) (sym (some_is l (listed_as file segments) e))
