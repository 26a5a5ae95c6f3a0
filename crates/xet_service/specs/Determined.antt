-- Replies as one function of the opened store and the steps.
use Rattle.std.specs.Prelude.{◌≡◌, ◌≢◌, ℕ, List}
use Rattle.std.specs.List.{AllByRecursion}
use Rattle.xet_types.specs.declared.error.Refusal.TheVariants.{IOError}
use Rattle.xet_service.specs.declared.step.Step.{Step}
use Rattle.xet_service.specs.declared.reply.Reply.{Reply}
use Rattle.xet_service.specs.declared.reply.Reply.TheVariants.{Refused}
use Rattle.xet_service.specs.World.{State}
use Rattle.xet_service.specs.Runs.{World, world, Event, IsRun}

-- the outside didn't fail
abbrev pub IsNoFailure : Reply → Type 0
IsNoFailure reply = reply ≢ Refused IOError

-- Two runs of the same steps from the same state, in neither of which the outside fails, have the same replies and end in the same
-- state. (A run that ended for want of memory is a run of the steps that were done.)
abbrev pub IsDetermined : Type 0
IsDetermined = (old : State) (faults counts : ℕ) (fixed fixes : ℕ → List ℕ) (steps : List Step) (replies answers : List Reply) (events others : List Event) (end last : World)
    → IsRun (world old faults fixed) steps replies events end → IsRun (world old counts fixes) steps answers others last
    → AllByRecursion IsNoFailure replies → AllByRecursion IsNoFailure answers → (replies ≡ answers) × (end.state ≡ last.state)
