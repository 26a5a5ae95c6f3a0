-- Plans of several files, one taken after the other.
use Rattle.std.proofs.Common.{◌≡◌, ◌∙◌, ℕ, ◌+◌, ◌<◌, List, [], ◌∷◌, ◌++◌, length, map, reverse, take, drop, get_or, Option, Some, None, Result, Ok, Err, ◌&&◌, Bool, true, false, Ordering, refl, sym, ap, subst}
use Rattle.std.specs.List.{AllByRecursion, flat_map}
use Rattle.std.specs.List.Sorted.{IsStrictlySortedBy}
use Rattle.std.specs.Prelude.{T}
use Rattle.std.specs.Ordering.{is_lt}
use Rattle.std.specs.declared.cmp.Ordering.TheVariants.{Less, Equal, Greater}
use Rattle.std.specs.FinMap.{FinMap, entries, entries-insert, empty, from_entries, is_sorted}
use Rattle.std.specs.FinMap.Entries.{put, below_all}
use Rattle.std.proofs.lemmas.List.{append-nil, append_assoc, map_push, reverse-append, take_more, take-append-drop}
use Rattle.std.proofs.lemmas.Grind.{flat_map-append}
use Rattle.xet_types.specs.Names.{hash_cmp}
use Rattle.xet_types.specs.declared.error.Refusal.{Refusal}
use Rattle.xet_types.specs.declared.error.Refusal.TheVariants.{FormatError, InvalidRange, InvalidArguments, FileNotFound, XORBNotFound, PresignedUrlExpirationError, IOError, Other, InvalidKey, CacheError, HttpStatus}
use Rattle.xet_types.specs.declared.record.XorbReconstructionTerm.{XorbReconstructionTerm}
use Rattle.xet_bytes.proofs.Maps.{entries_are, hash_total, hash_exact}
use Rattle.xet_plan.specs.declared.runs.MergedRange.{MergedRange}
use Rattle.xet_plan.specs.Plans.{PlanModel}
use Rattle.xet_plan.specs.Runs.{Before, Rising}
use Rattle.xet_plan.specs.Merging.{group_of}
use Rattle.xet_plan.proofs.Order.{all_push}
use Rattle.xet_store.specs.StoreModel.{StoreModel}
use Rattle.xet_store.specs.Plans.{PlansSoundly}
use Rattle.xet_store.specs.Answered.{AnsweredErr}
use Rattle.xet_store.specs.Told.{AsksErr}
use Rattle.xet_store.specs.Batches.{Listed, joined_at, joined_by_hash, FilePlan, file_terms, terms_by_file, runs_in, PlansModel, FileAnswer, answered_file, whole_file, IsAnswered, plan_in, plans_in, ArePlans, IsFirstRefused, with_all_joined}
use Rattle.xet_store.proofs.Joining.{joined_all, joined_sorted}

-- The answers of some files, and what was put together of their plans.
pub record SoFar (m : StoreModel) (files : List (List ℕ)) (terms : List (Listed XorbReconstructionTerm)) (runs : List (Listed MergedRange)) : Type 0 where
  pub answers : List FileAnswer
  pub of_files : files ≡ map answered_file answers
  pub each : AllByRecursion (IsAnswered m) answers
  pub terms_are : terms ≡ terms_by_file (plans_in answers)
  pub runs_are : runs ≡ joined_by_hash (flat_map runs_in (plans_in answers))

-- ---- nothing yet

abbrev none_listed : (X : Type 0) → List (List ℕ × X)
none_listed X = []

abbrev no_map : (X : Type 0) → FinMap hash_cmp X
no_map X = empty

no_entries : (X : Type 0) → entries (no_map X) ≡ []
unfolding IsStrictlySortedBy
no_entries X = entries_are hash_cmp hash_total hash_exact (none_listed X) tt

abbrev no_answers : List FileAnswer
no_answers = []

pub sofar_none : (m : StoreModel) (terms : List (Listed XorbReconstructionTerm)) (runs : List (Listed MergedRange)) → terms ≡ [] → runs ≡ [] → SoFar m [] terms runs
sofar_none m terms runs t r = record {
  answers = no_answers;
  of_files = refl;
  each = tt;
  terms_are = t ∙ sym (no_entries (List XorbReconstructionTerm));
  runs_are = r ∙ sym (ap (λ (es : List (List ℕ × Unit {0})). map (λ h. (h, joined_at {X = MergedRange} [] h)) (map (λ (e : List ℕ × Unit {0}). e.0) es)) (no_entries (Unit {0})));
}

-- ---- one file more

plans_push : (answers : List FileAnswer) (a : FileAnswer) → plans_in (answers ++ a ∷ []) ≡ plans_in answers ++ plan_in a
plans_push answers a = flat_map-append plan_in answers (a ∷ []) ∙ ap (λ (ps : List FilePlan). plans_in answers ++ ps) (append-nil (plan_in a))

terms_push : (plans : List FilePlan) (p : FilePlan) → terms_by_file (plans ++ p ∷ []) ≡ put hash_cmp p.0 p.1.terms (terms_by_file plans)
terms_push plans p =
    ap (λ (es : List (Listed XorbReconstructionTerm)). entries (from_entries {R = hash_cmp} (reverse es))) (map_push file_terms plans p)
    ∙ ap (λ (es : List (Listed XorbReconstructionTerm)). entries (from_entries {R = hash_cmp} es)) (reverse-append (map file_terms plans) (file_terms p ∷ []))
    ∙ entries-insert hash_total (from_entries {R = hash_cmp} (reverse (map file_terms plans))) p.0 p.1.terms

runs_push : (plans : List FilePlan) (p : FilePlan) → joined_by_hash (flat_map runs_in (plans ++ p ∷ [])) ≡ with_all_joined (joined_by_hash (flat_map runs_in plans)) p.1.merged
runs_push plans p =
    ap (λ (es : List (Listed MergedRange)). joined_by_hash es) (flat_map-append runs_in plans (p ∷ []) ∙ ap (λ (es : List (Listed MergedRange)). flat_map runs_in plans ++ es) (append-nil p.1.merged))
    ∙ sym (joined_all (flat_map runs_in plans) p.1.merged)

module _ (m : StoreModel) (files : List (List ℕ)) (i : ℕ) (terms : List (Listed XorbReconstructionTerm)) (runs : List (Listed MergedRange)) (file : List ℕ) (inside : i < length files) (is : file ≡ get_or files i file) (so : SoFar m (take i files) terms runs) where
  one_more : take (i + 1) files ≡ take i files ++ file ∷ []
  one_more = take_more files i file inside ∙ ap (λ (h : List ℕ). take i files ++ h ∷ []) (sym is)

  of_more : (a : Option PlanModel) → take (i + 1) files ≡ map answered_file (so.answers ++ (file, a) ∷ [])
  of_more a = one_more ∙ ap (λ (hs : List (List ℕ)). hs ++ file ∷ []) so.of_files ∙ sym (map_push answered_file so.answers (file, a))

  -- it isn't live
  pub sofar_passed : PlansSoundly m file whole_file (Ok None) → SoFar m (take (i + 1) files) terms runs
  sofar_passed gone =
      let a : FileAnswer = (file, None) in
      let same : plans_in (so.answers ++ a ∷ []) ≡ plans_in so.answers = plans_push so.answers a ∙ append-nil (plans_in so.answers) in
      record {
        answers = so.answers ++ a ∷ [];
        of_files = of_more None;
        each = all_push (IsAnswered m) so.answers a so.each gone;
        terms_are = so.terms_are ∙ ap terms_by_file (sym same);
        runs_are = so.runs_are ∙ ap (λ (ps : List FilePlan). joined_by_hash (flat_map runs_in ps)) (sym same);
      }

  -- it has this plan
  pub sofar_more : (plan : PlanModel) (more : List (Listed XorbReconstructionTerm)) (further : List (Listed MergedRange)) → PlansSoundly m file whole_file (Ok (Some plan)) → more ≡ put hash_cmp file plan.terms terms → further ≡ with_all_joined runs plan.merged
      → SoFar m (take (i + 1) files) more further
  sofar_more plan more further planned t f =
      let a : FileAnswer = (file, Some plan) in
      let p : FilePlan = (file, plan) in
      let plans = plans_push so.answers a in
      record {
        answers = so.answers ++ a ∷ [];
        of_files = of_more (Some plan);
        each = all_push (IsAnswered m) so.answers a so.each planned;
        terms_are = t ∙ ap (put hash_cmp file plan.terms) so.terms_are ∙ sym (terms_push (plans_in so.answers) p) ∙ ap terms_by_file (sym plans);
        runs_are = f ∙ ap (λ (es : List (Listed MergedRange)). with_all_joined es plan.merged) so.runs_are ∙ sym (runs_push (plans_in so.answers) p) ∙ ap (λ (ps : List FilePlan). joined_by_hash (flat_map runs_in ps)) (sym plans);
      }

  -- it is refused
  pub sofar_refused : (why : Refusal) → PlansSoundly m file whole_file (Err why) → IsFirstRefused m files why
  sofar_refused why refused = record {
    answers = so.answers;
    file = file;
    after = drop (i + 1) files;
    of_files = sym (take-append-drop (i + 1) files) ∙ ap (λ (hs : List (List ℕ)). hs ++ drop (i + 1) files) (one_more ∙ ap (λ (hs : List (List ℕ)). hs ++ file ∷ []) so.of_files) ∙ append_assoc (map answered_file so.answers) (file ∷ []) (drop (i + 1) files);
    each = so.each;
    refused = refused;
  }

-- all files were asked
pub sofar_all : (m : StoreModel) (files : List (List ℕ)) (plans : PlansModel) → SoFar m files plans.files plans.merged → ArePlans m files plans
sofar_all m files plans so = record {
  answers = so.answers;
  of_files = so.of_files;
  each = so.each;
  are = λ j. record { files = so.terms_are j; merged = so.runs_are j };
}

-- the xorbs are in order
pub plans_rise : (m : StoreModel) (files : List (List ℕ)) (plans : PlansModel) → ArePlans m files plans → Rising (map group_of plans.merged)
plans_rise m files plans h = subst (λ (p : PlansModel). Rising (map group_of p.merged)) (sym h.are) (rising_from_sorted _ (joined_sorted (flat_map runs_in (plans_in h.answers))))
  where
    less : (r : Ordering) → T (is_lt r) → r ≡ Less
    less Less h = refl
    less Equal h = absurd h
    less Greater h = absurd h

    both : (a b : Bool) → T (a && b) → T a × T b
    both true b h = (tt, h)
    both false b h = absurd h

    below : (hash : List ℕ) (gs : List (Listed MergedRange)) → T (below_all hash_cmp hash gs) → AllByRecursion (λ q. Before hash q.hash) (map group_of gs)
    below hash [] h = tt
    below hash (g ∷ gs) h = let p = both (is_lt (hash_cmp hash g.0)) (below_all hash_cmp hash gs) h in (less _ p.0, below hash gs p.1)

    rising_from_sorted : (gs : List (Listed MergedRange)) → T (is_sorted hash_cmp gs) → Rising (map group_of gs)
    rising_from_sorted [] h = tt
    rising_from_sorted (g ∷ gs) h = let p = both (below_all hash_cmp g.0 gs) (is_sorted hash_cmp gs) h in (below g.0 gs p.0, rising_from_sorted gs p.1)

-- ---- refusals

-- what is owed of a refusal of one answer is owed of a refusal of another
pub refused_as : {T U : Type 0} (P : Result T Refusal → Type 0) (Q : Result U Refusal → Type 0) (o : Option Refusal) → ((why : Refusal) → P (Err why) → Q (Err why)) → AsksErr P o → AsksErr Q o
refused_as P Q None f a = tt
refused_as P Q (Some IOError) f a = tt
refused_as P Q (Some (FormatError x)) f a = f (FormatError x) a
refused_as P Q (Some InvalidRange) f a = f InvalidRange a
refused_as P Q (Some InvalidArguments) f a = f InvalidArguments a
refused_as P Q (Some (FileNotFound h)) f a = f (FileNotFound h) a
refused_as P Q (Some (XORBNotFound h)) f a = f (XORBNotFound h) a
refused_as P Q (Some PresignedUrlExpirationError) f a = f PresignedUrlExpirationError a
refused_as P Q (Some Other) f a = f Other a
refused_as P Q (Some InvalidKey) f a = f InvalidKey a
refused_as P Q (Some CacheError) f a = f CacheError a
refused_as P Q (Some (HttpStatus s)) f a = f (HttpStatus s) a

-- the same of what was answered
pub answered_as : {T U : Type 0} (P : Result T Refusal → Type 0) (Q : Result U Refusal → Type 0) (R : Type 0) (o : Option Refusal) → ((why : Refusal) → P (Err why) → Q (Err why)) → AnsweredErr o P R → AnsweredErr o Q R
answered_as P Q R None f a = a
answered_as P Q R (Some why) f a = f why a
