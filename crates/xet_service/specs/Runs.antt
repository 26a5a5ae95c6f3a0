-- Worlds, events and runs.
use Rattle.std.specs.Prelude.{◌≡◌, ℕ, ◌==◌, ◌<◌, ◌≤◌, List, [], ◌∷◌, ◌++◌, length, map, take, ◌⊎◌, Option, Some, None, Result, Ok, Err, if◌then◌else◌}
use Rattle.xet_types.specs.declared.error.Refusal.{Refusal}
use Rattle.xet_types.specs.declared.error.Refusal.TheVariants.{IOError}
use Rattle.xet_types.specs.Faults.{Rose}
use Rattle.xet_store.specs.Plans.{file_bytes}
use Rattle.xet_service.specs.declared.step.Act.{Act}
use Rattle.xet_service.specs.declared.step.Act.TheVariants.{Plan}
use Rattle.xet_service.specs.declared.step.Step.{Step}
use Rattle.xet_service.specs.declared.reply.Reply.{Reply}
use Rattle.xet_service.specs.declared.reply.Reply.TheVariants.{Refused}
use Rattle.xet_service.specs.World.{State}
use Rattle.xet_service.specs.Steps.{Acts}
use Rattle.xet_service.specs.Causes.{IsAsked}

-- a state, the count of the store's faults, and for each read the bytes that its file had at its plan
pub record World : Type 0 where
  pub state : State
  pub faults : ℕ
  pub fixed : ℕ → List ℕ

abbrev pub world : State → ℕ → (ℕ → List ℕ) → World
world s faults fixed = record { state = s; faults = faults; fixed = fixed }

abbrev pub with_fixed : (ℕ → List ℕ) → ℕ → Option (List ℕ) → ℕ → List ℕ
with_fixed fixed read None = fixed
with_fixed fixed read (Some bytes) = λ n. if n == read then bytes else fixed n

-- a plan fixes the bytes of the next read
abbrev pub fixed_after : World → Act → ℕ → List ℕ
fixed_after w (Plan version file range) = with_fixed w.fixed w.state.next (file_bytes w.state.store file range)
fixed_after w act = w.fixed

-- what the reply says of the act
abbrev pub outcome_of : Reply → Result Reply Refusal
outcome_of (Refused why) = Err why
outcome_of reply = Ok reply

-- the store was asked and the outside failed: its count rose, and nothing else has changed
pub record Fails (old : State) (faults : ℕ) (step : Step) (reply : Reply) (new : State) (faults_after : ℕ) : Type 0 where
  pub reply_is : reply ≡ Refused IOError
  pub asked : IsAsked old step.at step.act
  pub same : new ≡ old
  pub rose : Rose faults faults_after

-- A step may answer so, from a state and a count of faults to others, or the outside failed.
pub record StepsTo (old : State) (faults : ℕ) (step : Step) (reply : Reply) (new : State) (faults_after : ℕ) : Type 0 where
  pub does : Acts old step.at step.act (outcome_of reply) new ⊎ Fails old faults step reply new faults_after
  pub later : faults ≤ faults_after

-- a step in a world: what came before it, its reply, and what comes after
pub record Event : Type 0 where
  pub before : World
  pub step : Step
  pub reply : Reply
  pub after : World

pub record IsStep (e : Event) : Type 0 where
  pub steps : StepsTo e.before.state e.before.faults e.step e.reply e.after.state e.after.faults
  pub fixes : e.after.fixed ≡ fixed_after e.before e.step.act

-- one event after another, from a world to a world
abbrev pub Chain : World → List Event → World → Type 0
Chain w [] end = end ≡ w
Chain w (e ∷ es) end = (e.before ≡ w) × IsStep e × Chain e.after es end

abbrev pub step_of : Event → Step
step_of e = e.step

abbrev pub reply_of : Event → Reply
reply_of e = e.reply

-- the events are those of these steps with these replies
pub record IsRun (start : World) (steps : List Step) (replies : List Reply) (events : List Event) (end : World) : Type 0 where
  pub chain : Chain start events end
  pub of_steps : steps ≡ map step_of events
  pub of_replies : replies ≡ map reply_of events

-- a run of these steps whose replies were appended, from a state and a count of faults to others
pub record Ran (old : State) (faults : ℕ) (steps : List Step) (before after : List Reply) (new : State) (faults_after : ℕ) : Type 0 where
  pub replies : List Reply
  pub appended : after ≡ before ++ replies
  -- whatever bytes the reads that are open already had
  pub run : (fixed : ℕ → List ℕ) → (events : List Event) × (end : ℕ → List ℕ) × IsRun (world old faults fixed) steps replies events (world new faults_after end)

-- so many of the steps were done, and not all; the count may have risen since
pub record RanInPart (old : State) (faults : ℕ) (steps : List Step) (before after : List Reply) (new : State) (faults_after : ℕ) : Type 0 where
  pub done : ℕ
  pub not_all : done < length steps
  pub faults_then : ℕ
  pub later : faults_then ≤ faults_after
  pub ran : Ran old faults (take done steps) before after new faults_then

-- all steps were done, or some first ones and memory was wanting
abbrev pub Runs : {T E : Type 0} → State → ℕ → List Step → List Reply → Result T E → List Reply → State → ℕ → Type 0
Runs old faults steps before (Ok x) after new faults_after = Ran old faults steps before after new faults_after
Runs old faults steps before (Err e) after new faults_after = RanInPart old faults steps before after new faults_after

-- a step was done and its reply appended, or memory was wanting and neither the state nor the replies have changed
abbrev pub StepAppends : {T E : Type 0} → State → ℕ → Step → List Reply → Result T E → List Reply → State → ℕ → Type 0
StepAppends old faults step before (Ok x) after new faults_after = (reply : Reply) × (after ≡ before ++ reply ∷ []) × StepsTo old faults step reply new faults_after
StepAppends old faults step before (Err e) after new faults_after = (after ≡ before) × (new ≡ old) × (faults ≤ faults_after)
