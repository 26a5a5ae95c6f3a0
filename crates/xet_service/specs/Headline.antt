-- What every run keeps.
use Rattle.std.specs.Prelude.{◌≡◌, ℕ, ◌<◌, ◌≤◌, ◌↔◌, ◌⊎◌, List, [], ◌∷◌, ◌++◌, length, take, Option, Some, None, Result, Ok, Err}
use Rattle.std.specs.List.{AllByRecursion}
use Rattle.xet_types.specs.declared.error.Refusal.{Refusal}
use Rattle.xet_types.specs.declared.error.Refusal.TheVariants.{InvalidArguments}
use Rattle.xet_types.specs.declared.range.Range.{Range}
use Rattle.xet_types.specs.declared.range._F.{_F}
use Rattle.xet_types.specs.declared.record.XorbRangeDescriptor.{XorbRangeDescriptor}
use Rattle.xet_types.specs.declared.record.XorbReconstructionTerm.{XorbReconstructionTerm}
use Rattle.xet_shard.specs.declared.listing.Segment.{Segment}
use Rattle.xet_shard.specs.Values.{size_of}
use Rattle.xet_plan.specs.Places.{Interval, reach, first_fault}
use Rattle.xet_plan.specs.declared.place.Reach.TheVariants.{Within}
use Rattle.xet_plan.specs.MetChunks.{Has, met_chunks}
use Rattle.xet_plan.specs.FileBytes.{Content}
use Rattle.xet_plan.specs.Plans.{PlanModel}
use Rattle.xet_plan.specs.Answers.{IsPlan}
use Rattle.xet_store.specs.StoreModel.{StoreModel, listing, known_of}
use Rattle.xet_service.specs.declared.step.Act.TheVariants.{Plan, Fetch}
use Rattle.xet_service.specs.declared.step.Step.{Step}
use Rattle.xet_service.specs.declared.step.PlanVersion.{PlanVersion}
use Rattle.xet_service.specs.declared.reply.CacheNote.{CacheNote}
use Rattle.xet_service.specs.declared.reply.Reply.{Reply}
use Rattle.xet_service.specs.declared.reply.Reply.TheVariants.{NoPlan, Done, Planned, Fetched, Finished, Refused}
use Rattle.xet_types.specs.Faults.{Rose}
use Rattle.xet_types.specs.declared.error.Refusal.TheVariants.{IOError}
use Rattle.xet_service.specs.declared.step.Act.TheVariants.{Abandon}
use Rattle.xet_service.specs.Links.{LinkModel, planned_links, answer_of}
use Rattle.xet_service.specs.World.{State, IsInOrder}
use Rattle.xet_service.specs.Runs.{World, world, Event, IsRun}
use Rattle.xet_service.specs.Causes.{HasCause, PlansNothing, IsLeft}
use Rattle.xet_service.specs.Validity.{IsValidList, ReadsSucceed}
use Rattle.xet_service.specs.Readable.{ReadableServe}

-- ---- links

-- chunk k is one of the ranges'
abbrev pub RangesHave : List XorbRangeDescriptor → ℕ → Type 0
RangesHave [] k = ⊥
RangesHave (r ∷ rs) k = ((r.chunks.start ≤ k) × (k < r.chunks.end)) ⊎ RangesHave rs k

abbrev pub LinkHas : LinkModel → List ℕ → ℕ → Type 0
LinkHas l hash k = (l.hash ≡ hash) × RangesHave l.ranges k

-- chunk k of the xorb is one of a link's
abbrev pub LinksHave : List LinkModel → List ℕ → ℕ → Type 0
LinksHave [] hash k = ⊥
LinksHave (l ∷ ls) hash k = LinkHas l hash k ⊎ LinksHave ls hash k

-- no two links have a chunk in common
abbrev pub EachOnce : List LinkModel → Type 0
EachOnce [] = Unit {0}
EachOnce (l ∷ ls) = ((hash : List ℕ) (k : ℕ) → LinkHas l hash k → LinksHave ls hash k → ⊥) × EachOnce ls

-- The file is live, the range begins inside, and the met segments agree. The reply has the version, the terms and the offset of the
-- file's plan, and its links in this version; the links hold exactly the met chunks, each once.
pub record HoldsMet (store : StoreModel) (version : PlanVersion) (file : List ℕ) (range : Option (Range ℕ _F)) (at : ℕ) (of : PlanVersion) (offset : ℕ) (terms : List XorbReconstructionTerm) (links : List LinkModel) : Type 0 where
  pub segments : List Segment
  pub clip : Interval
  pub plan : PlanModel
  pub live : listing store file ≡ Some segments
  pub reached : reach (size_of segments) range ≡ Within clip.start clip.end
  pub agree : first_fault (known_of store) clip segments ≡ None
  pub is_plan : IsPlan (known_of store) segments clip plan
  pub of_version : of ≡ version
  pub of_terms : terms ≡ plan.terms
  pub of_offset : offset ≡ plan.offset_into_first_range
  pub of_links : links ≡ planned_links (answer_of version store.max_ranges at plan)
  pub covers : (hash : List ℕ) (k : ℕ) → LinksHave links hash k ↔ Has (met_chunks (known_of store) clip segments) hash k
  pub once : EachOnce links

-- ---- the five sentences

-- A read finishes only with the file's bytes as its plan step's store gave them.
abbrev pub Finishes : Event → Type 0
Finishes e = (read : ℕ) (bytes : List ℕ) (wire : ℕ) (note : CacheNote) → e.reply ≡ Finished read bytes wire note → bytes ≡ e.after.fixed read

-- A plan's links hold exactly the chunks that meet its range, each once.
abbrev pub LinksExactly : Event → Type 0
LinksExactly e = (version : PlanVersion) (file : List ℕ) (range : Option (Range ℕ _F)) (read : ℕ) (of : PlanVersion) (offset : ℕ) (terms : List XorbReconstructionTerm) (ls : List LinkModel)
    → e.step.act ≡ Plan version file range → e.reply ≡ Planned of read offset terms ls → HoldsMet e.before.state.store version file range e.step.at of offset terms ls

-- A refused step changes neither store nor open reads.
abbrev pub RefusedChangesNothing : Event → Type 0
RefusedChangesNothing e = (why : Refusal) → e.reply ≡ Refused why → e.after.state ≡ e.before.state

-- the outside's refusal comes where its count rose, each other from the state and the act
abbrev pub Cause : Event → Refusal → Type 0
Cause e IOError = Rose e.before.faults e.after.faults
Cause e why = HasCause e.before.state e.step.at e.step.act why

-- It has its stated cause.
abbrev pub RefusedForCause : Event → Type 0
RefusedForCause e = (why : Refusal) → e.reply ≡ Refused why → Cause e why

-- The fifth, that a valid read's steps all succeed, the last fetch finishing it, is `ReadsSucceed`.

-- ---- links that are left

-- a fetch of this link succeeded
abbrev pub Brings : ℕ → ℕ → Reply → Type 0
Brings read link (Fetched n l left wire note) = (n ≡ read) × (l ≡ link)
Brings read link (Finished n bytes wire note) = n ≡ read
Brings read link reply = ⊥

-- the step brings the link, or gives its read up
abbrev pub Ends : Event → ℕ → ℕ → Type 0
Ends e read link = ((e.step.act ≡ Fetch read link) × Brings read link e.reply) ⊎ ((e.step.act ≡ Abandon read) × (e.reply ≡ Done))

pub record Keeps (e : Event) : Type 0 where
  pub links : LinksExactly e
  pub refused : RefusedChangesNothing e
  pub cause : RefusedForCause e
  -- the answer that there is no plan has its cause too
  pub no_plan : e.reply ≡ NoPlan → PlansNothing e.before.state e.step.act
  -- a link is left until a fetch of it succeeds or its read is abandoned; a fetch of a link that isn't left is refused
  pub left : (read link : ℕ) → IsLeft e.before.state read link → IsLeft e.after.state read link ⊎ Ends e read link
  pub gone : (read link : ℕ) → e.step.act ≡ Fetch read link → (IsLeft e.before.state read link → ⊥) → e.reply ≡ Refused InvalidArguments

-- ---- the headline

-- Of a run's events: the second to fourth sentence and what readable files give for every list from reads in order, the first and the fifth
-- for every valid list.
pub record Headline (start : World) (events : List Event) : Type 0 where
  pub keeps : IsInOrder start.state → AllByRecursion Keeps events
  pub finishes : (m : Content) → IsValidList m start.state events → AllByRecursion Finishes events
  pub succeeds : (m : Content) → IsValidList m start.state events → ReadsSucceed events
  pub readable : IsInOrder start.state → ReadableServe events

-- A run of these steps whose replies were appended, from a state and a count of faults to others, that keeps the headline.
pub record RanKeeping (old : State) (faults : ℕ) (steps : List Step) (before after : List Reply) (new : State) (faults_after : ℕ) : Type 0 where
  pub replies : List Reply
  pub appended : after ≡ before ++ replies
  -- whatever bytes the reads that are open already had
  pub run : (fixed : ℕ → List ℕ) → (events : List Event) × (end : ℕ → List ℕ) × IsRun (world old faults fixed) steps replies events (world new faults_after end) × Headline (world old faults fixed) events
  pub in_order : IsInOrder old → IsInOrder new

-- some first steps were done and no more, since memory was wanting; the count may have risen since
pub record KeepsInPart (old : State) (faults : ℕ) (steps : List Step) (before after : List Reply) (new : State) (faults_after : ℕ) : Type 0 where
  pub done : ℕ
  pub not_all : done < length steps
  pub faults_then : ℕ
  pub later : faults_then ≤ faults_after
  pub ran : RanKeeping old faults (take done steps) before after new faults_then

abbrev pub RunsKeeping : {T E : Type 0} → State → ℕ → List Step → List Reply → Result T E → List Reply → State → ℕ → Type 0
RunsKeeping old faults steps before (Ok x) after new faults_after = RanKeeping old faults steps before after new faults_after
RunsKeeping old faults steps before (Err e) after new faults_after = KeepsInPart old faults steps before after new faults_after
