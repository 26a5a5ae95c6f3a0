-- Plans of several files, taken together.
use Rattle.std.specs.Prelude.{◌≡◌, ℕ, List, [], ◌∷◌, ◌++◌, map, reverse, Option, Some, None, Result, Ok, Err, if◌then◌else◌}
use Rattle.std.specs.List.{AllByRecursion, fold, flat_map}
use Rattle.std.specs.FinMap.{from_entries, entries, keys}
use Rattle.std.specs.FinMap.Entries.{find, put}
use Rattle.xet_types.specs.Names.{hash_cmp, same_hash}
use Rattle.xet_types.specs.Records.{BatchPlan}
use Rattle.xet_types.specs.declared.error.Refusal.{Refusal}
use Rattle.xet_types.specs.declared.range.Range.{Range}
use Rattle.xet_types.specs.declared.range._F.{_F}
use Rattle.xet_types.specs.declared.record.XorbReconstructionTerm.{XorbReconstructionTerm}
use Rattle.xet_plan.specs.declared.runs.MergedRange.{MergedRange}
use Rattle.xet_plan.specs.Plans.{PlanModel}
use Rattle.xet_store.specs.StoreModel.{StoreModel}
use Rattle.xet_store.specs.Plans.{PlansSoundly}
use Rattle.xet_store.specs.Responses.{fetches_at}
use Rattle.xet_store.specs.Lists.{set_of}

-- ---- lists under hashes

-- a list under a hash
abbrev pub Listed : Type 0 → Type 0
Listed X = List ℕ × List X

abbrev pub hashes_of : {X : Type 0} → List (Listed X) → List (List ℕ)
hashes_of es = map (λ e. e.0) es

-- what is listed under the hash, if anything
abbrev pub list_at : {X : Type 0} → List ℕ → Listed X → List X
list_at hash e = if same_hash e.0 hash then e.1 else []

-- all that is listed under the hash, one list behind the other
abbrev pub joined_at : {X : Type 0} → List (Listed X) → List ℕ → List X
joined_at es hash = flat_map (list_at hash) es

-- each hash once, in order, with all that is listed under it
abbrev pub joined_by_hash : {X : Type 0} → List (Listed X) → List (Listed X)
joined_by_hash es = map (λ h. (h, joined_at es h)) (keys (set_of (hashes_of es)))

-- ---- plans

-- a live file and its plan
abbrev pub FilePlan : Type 0
FilePlan = List ℕ × PlanModel

abbrev pub file_terms : FilePlan → Listed XorbReconstructionTerm
file_terms p = (p.0, p.1.terms)

-- the terms of each file, in order of hash; of a file that stands several times those of its last plan
abbrev pub terms_by_file : List FilePlan → List (Listed XorbReconstructionTerm)
terms_by_file plans = entries (from_entries {R = hash_cmp} (reverse (map file_terms plans)))

abbrev pub runs_in : FilePlan → List (Listed MergedRange)
runs_in p = p.1.merged

-- the terms of several files, and the ranges to fetch, by xorb, for all of them, both in order of hash
pub record PlansModel : Type 0 where
  pub files : List (Listed XorbReconstructionTerm)
  pub merged : List (Listed MergedRange)

-- each file's terms; and the ranges of each xorb in all plans, one plan behind the other
abbrev pub plans_of : List FilePlan → PlansModel
plans_of plans = record { files = terms_by_file plans; merged = joined_by_hash (flat_map runs_in plans) }

-- ---- what a store answers

-- a file and its plan, or none where it isn't live
abbrev pub FileAnswer : Type 0
FileAnswer = List ℕ × Option PlanModel

abbrev pub answered_file : FileAnswer → List ℕ
answered_file a = a.0

abbrev pub whole_file : Option (Range ℕ _F)
whole_file = None

-- the plan of the whole file is this
abbrev pub IsAnswered : StoreModel → FileAnswer → Type 0
IsAnswered m a = PlansSoundly m a.0 whole_file (Ok a.1)

abbrev pub plan_with : List ℕ → Option PlanModel → List FilePlan
plan_with file None = []
plan_with file (Some plan) = (file, plan) ∷ []

abbrev pub plan_in : FileAnswer → List FilePlan
plan_in a = plan_with a.0 a.1

-- the plans of those that are live, in order
abbrev pub plans_in : List FileAnswer → List FilePlan
plans_in answers = flat_map plan_in answers

-- each of the files has its answer, and these are the plans of the live ones, taken together
pub record ArePlans (m : StoreModel) (files : List (List ℕ)) (plans : PlansModel) : Type 0 where
  pub answers : List FileAnswer
  pub of_files : files ≡ map answered_file answers
  pub each : AllByRecursion (IsAnswered m) answers
  pub are : plans ≡ plans_of (plans_in answers)

-- one of the files is refused its plan so, and none before it is refused
pub record IsFirstRefused (m : StoreModel) (files : List (List ℕ)) (why : Refusal) : Type 0 where
  pub answers : List FileAnswer
  pub file : List ℕ
  pub after : List (List ℕ)
  pub of_files : files ≡ map answered_file answers ++ file ∷ after
  pub each : AllByRecursion (IsAnswered m) answers
  pub refused : PlansSoundly m file whole_file (Err why)

-- The plans of the files in the asked order, taken together, or the first refusal of one.
abbrev pub PlansAll : StoreModel → List (List ℕ) → Result PlansModel Refusal → Type 0
PlansAll m files (Ok plans) = ArePlans m files plans
PlansAll m files (Err why) = IsFirstRefused m files why

-- ---- with the texts of the links

-- the plans with one link of version 1 for each range, at a moment
abbrev pub batch_at : ℕ → PlansModel → BatchPlan
batch_at at plans = record { files = plans.files; fetch_info = map (fetches_at at) plans.merged }

abbrev pub batch_by : ℕ → Result PlansModel Refusal → Result BatchPlan Refusal
batch_by at (Ok plans) = Ok (batch_at at plans)
batch_by at (Err why) = Err why

-- The answer is that of the files' plans, written so.
pub record RespondsToAll (m : StoreModel) (files : List (List ℕ)) (at : ℕ) (result : Result BatchPlan Refusal) : Type 0 where
  pub answer : Result PlansModel Refusal
  pub plans : PlansAll m files answer
  pub response : result ≡ batch_by at answer

-- ---- one list more

abbrev pub behind : {X : Type 0} → Option (List X) → List X → List X
behind None xs = xs
behind (Some before) xs = before ++ xs

-- the list behind the one that its hash has
abbrev pub with_joined : {X : Type 0} → List (Listed X) → Listed X → List (Listed X)
with_joined es e = put hash_cmp e.0 (behind (find hash_cmp e.0 es) e.1) es

abbrev pub with_all_joined : {X : Type 0} → List (Listed X) → List (Listed X) → List (Listed X)
with_all_joined es fs = fold with_joined es fs
