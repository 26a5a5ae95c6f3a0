-- What the planner and the store answer, and why.
use Rattle.std.proofs.Common.{◌≡◌, ◌∙◌, ◌++◌, map, ℕ, inl, inr, true, false, Bool, cond, List, [], ◌∷◌, Option, Some, None, Result, Ok, Err, refl, sym, ap, subst, eqb}
use Rattle.std.specs.Option.{is_some}
use Rattle.std.specs.List.{AllByRecursion}
use Rattle.xet_types.specs.Records.{BatchPlan}
use Rattle.std.proofs.lemmas.Bool.{eqb-true}
use Rattle.xet_types.specs.declared.error.Refusal.{Refusal}
use Rattle.xet_types.specs.declared.error.Refusal.TheVariants.{FormatError, InvalidRange, InvalidArguments, XORBNotFound, FileNotFound, Other}
use Rattle.xet_types.specs.declared.error.FormatFault.TheVariants as faults
use Rattle.xet_types.specs.declared.range.Range.{Range}
use Rattle.xet_types.specs.declared.range._F.{_F}
use Rattle.xet_shard.specs.declared.listing.Segment.{Segment}
use Rattle.xet_shard.specs.Values.{size_of}
use Rattle.xet_xorb.specs.Values.{Xorb}
use Rattle.xet_plan.specs.Places.{Interval, interval, reach, Known, Placed, first_fault, first_of, fault_at, or_else, agrees, met_segments}
use Rattle.xet_plan.specs.declared.place.Reach.{Reach}
use Rattle.xet_plan.specs.declared.place.Reach.TheVariants.{Past, Reversed, Within}
use Rattle.xet_plan.specs.Plans.{PlanModel}
use Rattle.xet_store.specs.StoreModel.{StoreModel, Chunks, stored, listing, known_of, shard_named, without_shard}
use Rattle.xet_generated.specs.Terms.{Term}
use Rattle.xet_store.specs.Commands.{Is, done, UploadsXorb, UploadsOver, UploadsFresh, UploadsShard, delete_shard, set_max_ranges, InsertsSeeded, InsertsLazy}
use Rattle.xet_store.specs.Checks.{checked}
use Rattle.xet_store.specs.Questions.{asked, data_agreed, data_asked, data_listed, file_data, size_listed, file_size}
use Rattle.xet_store.specs.Plans.{PlansFile, PlansListed, PlansReached, PlansWithin, Serves}
use Rattle.xet_service.specs.declared.step.Act.TheVariants.{UploadXorb, UploadShard, Plan, DeleteShard, SetMaxRanges, FileSize, FileData, CheckIntegrity, CheckReachable, CheckReadable, InsertRandomXorb, Batch, InsertLazyFile}
use Rattle.xet_service.specs.declared.step.PlanVersion.{PlanVersion}
use Rattle.xet_store.specs.Batches.{PlansModel, FileAnswer, answered_file, whole_file, IsAnswered, PlansAll, batch_by, RespondsToAll}
use Rattle.xet_service.specs.declared.reply.Reply.{Reply}
use Rattle.xet_service.specs.World.{State}
use Rattle.xet_service.specs.Steps.{asks, batch_reply, BatchesBy}
use Rattle.xet_service.specs.Causes.{HasCause, HasNoFault, PlansLive, PlansNothing, AsksLive}

-- ---- plans

-- a live file, an interval of it, and its plan
pub record Reached (store : StoreModel) (file : List ℕ) (range : Option (Range ℕ _F)) (plan : PlanModel) : Type 0 where
  pub segments : List Segment
  pub clip : Interval
  pub live : listing store file ≡ Some segments
  pub reached : reach (size_of segments) range ≡ Within clip.start clip.end
  pub serves : Serves (known_of store) segments range clip plan

-- what each answer of the planner says
abbrev pub Says : State → ℕ → PlanVersion → List ℕ → Option (Range ℕ _F) → Result (Option PlanModel) Refusal → Type 0
Says s at version file range (Err why) = HasCause s at (Plan version file range) why
Says s at version file range (Ok None) = PlansNothing s (Plan version file range)
Says s at version file range (Ok (Some plan)) = Reached s.store file range plan

module _ (s : State) (at : ℕ) (version : PlanVersion) (file : List ℕ) (range : Option (Range ℕ _F)) where
  abbrev live_plan : (segments : List Segment) → listing s.store file ≡ Some segments → PlansLive s (Plan version file range)
  live_plan segments live = record { version = version; file = file; range = range; is = refl; segments = segments; live = live }

  within_says : (segments : List Segment) (a b : ℕ) (r : Result (Option PlanModel) Refusal) → listing s.store file ≡ Some segments → reach (size_of segments) range ≡ Within a b → PlansWithin (known_of s.store) segments range (interval a b) r → Says s at version file range r
  within_says segments a b (Ok (Some plan)) live reached h = record { segments = segments; clip = interval a b; live = live; reached = reached; serves = h }
  within_says segments a b (Ok None) live reached h = absurd h
  within_says segments a b (Err (XORBNotFound hash)) live reached h = inl (record { plan = live_plan segments live; clip = interval a b; reached = reached; fault = h })
  within_says segments a b (Err (FormatError faults.Segment)) live reached h = inl (record { plan = live_plan segments live; clip = interval a b; reached = reached; fault = h })
  within_says segments a b (Err why) live reached h = absurd h

  reached_says : (segments : List Segment) (z : Reach) (r : Result (Option PlanModel) Refusal) → listing s.store file ≡ Some segments → reach (size_of segments) range ≡ z → PlansReached (known_of s.store) segments range z r → Says s at version file range r
  reached_says segments Past r live reached h =
      subst (Says s at version file range) (sym h) (record { version = version; file = file; range = range; is = refl; nothing = inr (segments, live, reached) })
  reached_says segments Reversed r live reached h = subst (Says s at version file range) (sym h) (inl (record { plan = live_plan segments live; reversed = reached }))
  reached_says segments (Within a b) r live reached h = within_says segments a b r live reached h

  listed_says : (o : Option (List Segment)) (r : Result (Option PlanModel) Refusal) → listing s.store file ≡ o → PlansListed (known_of s.store) range o r → Says s at version file range r
  listed_says None r live h = subst (Says s at version file range) (sym h) (record { version = version; file = file; range = range; is = refl; nothing = inl live })
  listed_says (Some segments) r live h = reached_says segments (reach (size_of segments) range) r live refl h

  pub plan_says : (r : Result (Option PlanModel) Refusal) → PlansFile s.store file range r → Says s at version file range r
  plan_says r h = listed_says (listing s.store file) r refl h

-- ---- uploads

module _ (s : State) (at : ℕ) (hash content : List ℕ) (new : StoreModel) where
  fresh_refused : (why : Refusal) → stored s.store hash ≡ None → UploadsFresh s.store hash content (Err why) new → (new ≡ s.store) × HasCause s at (UploadXorb hash content) why
  fresh_refused (FormatError faults.Xorb) fresh h = (h.1, inl (record { hash = hash; content = content; is = refl; fresh = fresh; unspelled = h.0 }))
  fresh_refused Other fresh h = (h.1, inl (record { hash = hash; content = content; is = refl; fresh = fresh; misnamed = h.0 }))
  fresh_refused why fresh h = absurd h

  over_refused : (o : Option Chunks) (why : Refusal) → stored s.store hash ≡ o → UploadsOver o s.store hash content (Err why) new → (new ≡ s.store) × HasCause s at (UploadXorb hash content) why
  over_refused (Some chunks) why there h = absurd (let e : ◌≡◌ {A = Result ℕ Refusal} (Err why) (Ok 0) = h.0 in cc)
  over_refused None why there h = fresh_refused why there h

  pub xorb_refused : (why : Refusal) → UploadsXorb s.store hash content (Err why) new → (new ≡ s.store) × HasCause s at (UploadXorb hash content) why
  xorb_refused why h = over_refused (stored s.store hash) why refl h

pub shard_refused : (s : State) (at : ℕ) (content : List ℕ) (new : StoreModel) (why : Refusal) → UploadsShard s.store content (Err why) new → (new ≡ s.store) × HasCause s at (UploadShard content) why
shard_refused s at content new (FormatError faults.Shard) h = (h.1, record { content = content; is = refl; unspelled = h.0 })
shard_refused s at content new why h = absurd h

pub generated_refused : (s : State) (at seed count size : ℕ) (new : StoreModel) (why : Refusal) → InsertsSeeded s.store seed count size (Err why) new → (new ≡ s.store) × HasCause s at (InsertRandomXorb seed count size) why
generated_refused s at seed count size new InvalidArguments h = (h.1, inr (inr (inr (inr (inl (record { seed = seed; count = count; size = size; is = refl; misshapen = h.0 }))))))
generated_refused s at seed count size new why h = absurd h

pub lazy_refused : (s : State) (at : ℕ) (terms : List Term) (size : ℕ) (new : StoreModel) (why : Refusal) → InsertsLazy s.store terms size (Err why) new → (new ≡ s.store) × HasCause s at (InsertLazyFile terms size) why
lazy_refused s at terms size new InvalidArguments h = (h.1, inr (inr (inr (inr (inr (record { terms = terms; size = size; is = refl; misshapen = h.0 }))))))
lazy_refused s at terms size new why h = absurd h

-- ---- commands that are functions

-- what is always done is never refused
pub never_refused : (old m new : StoreModel) (why : Refusal) (A : Type 0) → Is (done m) (Err why) new → A
never_refused old m new why A h = absurd (let e : ◌≡◌ {A = Result (Unit {0}) Refusal} (Err why) (Ok tt) = h.0 in cc)

none_of : {X : Type 0} (o : Option X) → is_some o ≡ false → o ≡ None
none_of None e = refl
none_of (Some x) e = absurd cc

pub shard_kept : (s : State) (at : ℕ) (name : List ℕ) (new : StoreModel) (why : Refusal) → Is (delete_shard s.store name) (Err why) new → (new ≡ s.store) × HasCause s at (DeleteShard name) why
shard_kept s at name new why h = of (is_some (shard_named s.store.shards name)) refl h
  where
    gone_store : StoreModel
    gone_store = record s.store { shards = without_shard s.store.shards name }

    of : (b : Bool) → is_some (shard_named s.store.shards name) ≡ b → Is (cond b (done gone_store) (Err Other, s.store)) (Err why) new → (new ≡ s.store) × HasCause s at (DeleteShard name) why
    of true e g = never_refused s.store gone_store new why ((new ≡ s.store) × HasCause s at (DeleteShard name) why) g
    of false e g =
        let one : ◌≡◌ {A = Result (Unit {0}) Refusal} (Err why) (Err Other) = g.0 in
        let same : why ≡ Other = cc in
        (g.1, subst (HasCause s at (DeleteShard name)) (sym same) (inr (inl (record { name = name; is = refl; unstored = none_of (shard_named s.store.shards name) e }))))

pub max_kept : (s : State) (at max : ℕ) (new : StoreModel) (why : Refusal) → Is (set_max_ranges s.store max) (Err why) new → (new ≡ s.store) × HasCause s at (SetMaxRanges max) why
max_kept s at max new why h = of (eqb max 0) refl h
  where
    set_store : StoreModel
    set_store = record s.store { max_ranges = max }

    of : (b : Bool) → eqb max 0 ≡ b → Is (cond b (Err InvalidArguments, s.store) (done set_store)) (Err why) new → (new ≡ s.store) × HasCause s at (SetMaxRanges max) why
    of true e g =
        let one : ◌≡◌ {A = Result (Unit {0}) Refusal} (Err why) (Err InvalidArguments) = g.0 in
        let same : why ≡ InvalidArguments = cc in
        (g.1, subst (HasCause s at (SetMaxRanges max)) (sym same) (inr (inr (inr (inl (record { is = ap (λ (n : ℕ). SetMaxRanges n) (eqb-true max 0 e) }))))))
    of false e g = never_refused s.store set_store new why ((new ≡ s.store) × HasCause s at (SetMaxRanges max) why) g

-- ---- questions

pub size_refused : (s : State) (at : ℕ) (file : List ℕ) (why : Refusal) → file_size s.store file ≡ Err why → HasCause s at (FileSize file) why
size_refused s at file why h = of (listing s.store file) refl h
  where
    of : (o : Option (List Segment)) → listing s.store file ≡ o → size_listed file o ≡ Err why → HasCause s at (FileSize file) why
    of None e g = let same : FileNotFound file ≡ why = cc in subst (HasCause s at (FileSize file)) same (record { is = refl; gone = e })
    of (Some segments) e g = absurd cc

-- a check that fails
pub check_refused : (C : Refusal → Type 0) (holds : Bool) (why : Refusal) → (holds ≡ false → C Other) → checked holds ≡ Err why → C why
check_refused C true why cause e = absurd cc
check_refused C false why cause e = let same : Other ≡ why = cc in subst C same (cause refl)

-- the faults of segments
abbrev IsFault : Refusal → Type 0
IsFault (XORBNotFound hash) = Unit {0}
IsFault (FormatError faults.Segment) = Unit {0}
IsFault f = ⊥

some_fault : (f g : Refusal) → IsFault f → Some f ≡ Some g → IsFault g
some_fault f g i e = let same : f ≡ g = cc in subst IsFault same i

first_is : (known : Known) (ps : List Placed) (f : Refusal) → first_of known ps ≡ Some f → IsFault f
first_is known [] f e = absurd cc
first_is known (p ∷ ps) f e = of (λ g. first_is known ps f g) (known p.segment.xorb_hash) e
  where
    rest : (b : Bool) → (first_of known ps ≡ Some f → IsFault f) → or_else (cond b None (Some (FormatError faults.Segment))) (first_of known ps) ≡ Some f → IsFault f
    rest true more g = more g
    rest false more g = some_fault (FormatError faults.Segment) f tt g

    of : (first_of known ps ≡ Some f → IsFault f) → (o : Option Xorb) → or_else (fault_at p.segment o) (first_of known ps) ≡ Some f → IsFault f
    of more None g = some_fault (XORBNotFound p.segment.xorb_hash) f tt g
    of more (Some x) g = rest (agrees p.segment x) more g

module _ (s : State) (at : ℕ) (file : List ℕ) (range : Option (Range ℕ _F)) where
  abbrev DataCause : Refusal → Type 0
  DataCause why = HasCause s at (FileData file range) why

  abbrev live_data : (segments : List Segment) → listing s.store file ≡ Some segments → AsksLive s (FileData file range)
  live_data segments live = record { file = file; range = range; is = refl; segments = segments; live = live }

  fault_refused : (segments : List Segment) (clip : Interval) (fault why : Refusal) → listing s.store file ≡ Some segments → asked (size_of segments) range ≡ Some clip → first_fault (known_of s.store) clip segments ≡ Some fault → fault ≡ why → DataCause why
  fault_refused segments clip fault why live inside e same = subst DataCause same (of fault (first_is (known_of s.store) (met_segments clip segments) fault e) e)
    where
      of : (f : Refusal) → IsFault f → first_fault (known_of s.store) clip segments ≡ Some f → DataCause f
      of (XORBNotFound hash) i g = inr (inl (record { asks = live_data segments live; clip = clip; inside = inside; fault = g }))
      of (FormatError faults.Segment) i g = inr (inl (record { asks = live_data segments live; clip = clip; inside = inside; fault = g }))
      of f i g = absurd i

  data_of : (segments : List Segment) (clip : Interval) (o : Option Refusal) (why : Refusal) → listing s.store file ≡ Some segments → asked (size_of segments) range ≡ Some clip → first_fault (known_of s.store) clip segments ≡ o → data_agreed s.store segments clip o ≡ Err why → DataCause why
  data_of segments clip (Some fault) why live inside e g = let same : fault ≡ why = cc in fault_refused segments clip fault why live inside e same
  data_of segments clip None why live inside e g = absurd cc

  asked_of : (segments : List Segment) (o : Option Interval) (why : Refusal) → listing s.store file ≡ Some segments → asked (size_of segments) range ≡ o → data_asked s.store segments o ≡ Err why → DataCause why
  asked_of segments None why live inside g = let same : InvalidRange ≡ why = cc in subst DataCause same (inr (inr (record { asks = live_data segments live; past = inside })))
  asked_of segments (Some clip) why live inside g = data_of segments clip (first_fault (known_of s.store) clip segments) why live inside refl g

  listed_of : (o : Option (List Segment)) (why : Refusal) → listing s.store file ≡ o → data_listed s.store file range o ≡ Err why → DataCause why
  listed_of None why live g = let same : FileNotFound file ≡ why = cc in subst DataCause same (record { is = refl; gone = live })
  listed_of (Some segments) why live g = asked_of segments (asked (size_of segments) range) why live refl g

  pub data_refused : (why : Refusal) → file_data s.store file range ≡ Err why → DataCause why
  data_refused why h = listed_of (listing s.store file) why refl h

-- ---- plans of several files

-- what is answered is the reply, and nothing changes
pub batch_asked : (s : State) (at : ℕ) (files : List (List ℕ)) (result : Result Reply Refusal) (t : State) → (h : BatchesBy s files at result t) → asks batch_reply s h.replies.answer ≡ (result, t)
batch_asked s at files result t h = λ j. (sym h.replies.reply j, sym h.same j)

abbrev batch_answer : Result BatchPlan Refusal → Result BatchPlan Refusal
batch_answer r = r

module _ (s : State) (at : ℕ) where
  -- the plan of a live file that isn't refused is without faults
  served_faultless : (o : Option PlanModel) (segments : List Segment) → PlansWithin (known_of s.store) segments None (interval 0 (size_of segments)) (Ok o) → first_fault (known_of s.store) (interval 0 (size_of segments)) segments ≡ None
  served_faultless (Some plan) segments h = h.faultless
  served_faultless None segments h = absurd h

  answered_faultless : (a : FileAnswer) → IsAnswered s.store a → HasNoFault s.store a.0
  answered_faultless a h segments live = served_faultless a.1 segments (subst (λ (o : Option (List Segment)). PlansListed (known_of s.store) whole_file o (Ok a.1)) live h.plans)

  all_faultless : (answers : List FileAnswer) → AllByRecursion (IsAnswered s.store) answers → AllByRecursion (HasNoFault s.store) (map answered_file answers)
  all_faultless [] h = tt
  all_faultless (a ∷ answers) h = (answered_faultless a h.0, all_faultless answers h.1)

  module _ (before : List (List ℕ)) (file : List ℕ) (after : List (List ℕ)) (faultless : AllByRecursion (HasNoFault s.store) before) where
    abbrev BatchCause : Refusal → Type 0
    BatchCause why = HasCause s at (Batch (before ++ file ∷ after)) why

    within_refused : (segments : List Segment) (why : Refusal) → listing s.store file ≡ Some segments → PlansWithin (known_of s.store) segments None (interval 0 (size_of segments)) (Err why) → BatchCause why
    within_refused segments (XORBNotFound hash) live h = inr (inr (inr (record { before = before; file = file; after = after; is = refl; faultless = faultless; segments = segments; live = live; fault = h })))
    within_refused segments (FormatError faults.Segment) live h = inr (inr (record { before = before; file = file; after = after; is = refl; faultless = faultless; segments = segments; live = live; fault = h }))
    within_refused segments why live h = absurd h

    planned_refused : (o : Option (List Segment)) (why : Refusal) → listing s.store file ≡ o → PlansListed (known_of s.store) whole_file o (Err why) → BatchCause why
    planned_refused None why live h = absurd (let e : ◌≡◌ {A = Result (Option PlanModel) Refusal} (Err why) (Ok None) = h in cc)
    planned_refused (Some segments) why live h = within_refused segments why live h

  all_refused : (files : List (List ℕ)) (why : Refusal) → PlansAll s.store files (Err why) → HasCause s at (Batch files) why
  all_refused files why h =
      subst (λ (fs : List (List ℕ)). HasCause s at (Batch fs) why) (sym h.of_files)
      (planned_refused (map answered_file h.answers) h.file h.after (all_faultless h.answers h.each) (listing s.store h.file) why refl h.refused.plans)

  answer_refused : (files : List (List ℕ)) (why : Refusal) (r : Result PlansModel Refusal) → batch_answer (Err why) ≡ batch_by at r → PlansAll s.store files r → HasCause s at (Batch files) why
  answer_refused files why (Ok plans) e h = absurd cc
  answer_refused files why (Err other) e h = let same : other ≡ why = cc in subst (λ (w : Refusal). HasCause s at (Batch files) w) same (all_refused files other h)

  pub batch_refused : (files : List (List ℕ)) (why : Refusal) → RespondsToAll s.store files at (Err why) → HasCause s at (Batch files) why
  batch_refused files why h = answer_refused files why h.answer h.response h.plans
