-- What holds of every run, whatever its store tells.
use Rattle.std.specs.Prelude.{◌≡◌, ℕ, ◌<◌, ◌≤◌, List, [], ◌∷◌, ◌++◌, length, take, Result, Ok, Err}
use Rattle.xet_types.specs.declared.error.Refusal.{Refusal}
use Rattle.xet_types.specs.declared.error.Refusal.TheVariants.{IOError}
use Rattle.xet_types.specs.Faults.{Rose}
use Rattle.xet_service.specs.declared.step.Step.{Step}
use Rattle.xet_service.specs.declared.reply.Reply.{Reply}
use Rattle.xet_service.specs.declared.reply.Reply.TheVariants.{Refused}
use Rattle.xet_service.specs.Requests.{OfAct}
use Rattle.xet_service.specs.World.{Reads}

-- a service without its store: the open reads, the next number, and the count of the store's faults
pub record Sight : Type 0 where
  pub reads : Reads
  pub next : ℕ
  pub faults : ℕ

abbrev pub sight : Reads → ℕ → ℕ → Sight
sight reads next faults = record { reads = reads; next = next; faults = faults }

-- A refusal is one of the act's, and keeps the open reads and the next number; the outside's comes only where its count rose, which
-- never falls.
pub record IsSeen (before : Sight) (step : Step) (reply : Reply) (after : Sight) : Type 0 where
  pub later : before.faults ≤ after.faults
  pub of_act : (why : Refusal) → reply ≡ Refused why → OfAct step.act why
  pub reads : (why : Refusal) → reply ≡ Refused why → after.reads ≡ before.reads
  pub next : (why : Refusal) → reply ≡ Refused why → after.next ≡ before.next
  pub failed : reply ≡ Refused IOError → Rose before.faults after.faults

-- such steps one after another
abbrev pub Sees : Sight → List Step → List Reply → Sight → Type 0
Sees s [] [] end = end ≡ s
Sees s (step ∷ steps) (reply ∷ replies) end = (t : Sight) × (IsSeen s step reply t × Sees t steps replies end)
Sees s [] (reply ∷ replies) end = ⊥
Sees s (step ∷ steps) [] end = ⊥

-- the replies of such steps were appended
pub record Saw (old : Sight) (steps : List Step) (before after : List Reply) (new : Sight) : Type 0 where
  pub replies : List Reply
  pub appended : after ≡ before ++ replies
  pub seen : Sees old steps replies new

-- so many of the steps were done, and not all; the count may have risen since
pub record SawInPart (old : Sight) (steps : List Step) (before after : List Reply) (new : Sight) : Type 0 where
  pub done : ℕ
  pub not_all : done < length steps
  pub faults_then : ℕ
  pub later : faults_then ≤ new.faults
  pub saw : Saw old (take done steps) before after (sight new.reads new.next faults_then)

-- all steps were done, or some first ones and memory was wanting
abbrev pub Shows : {T E : Type 0} → Sight → List Step → List Reply → Result T E → List Reply → Sight → Type 0
Shows old steps before (Ok x) after new = Saw old steps before after new
Shows old steps before (Err e) after new = SawInPart old steps before after new

-- a step was done and its reply appended, or memory was wanting and neither the open reads nor the replies have changed
abbrev pub SightAppends : {T E : Type 0} → Sight → Step → List Reply → Result T E → List Reply → Sight → Type 0
SightAppends old step before (Ok x) after new = (reply : Reply) × (after ≡ before ++ reply ∷ []) × IsSeen old step reply new
SightAppends old step before (Err e) after new = (after ≡ before) × (new.reads ≡ old.reads) × (new.next ≡ old.next) × (old.faults ≤ new.faults)
