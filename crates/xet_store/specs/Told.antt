-- What a call of any store owes where the store's model is told.
use Rattle.std.specs.Prelude.{◌≡◌, Option, Some, None, Result, Ok, Err}
use Rattle.xet_types.specs.declared.error.ClientError.{ClientError}
use Rattle.xet_types.specs.declared.error.Refusal.{Refusal}
use Rattle.xet_types.specs.declared.error.Refusal.TheVariants.{IOError}
use Rattle.xet_types.specs.Faults.{refusal_of}
use Rattle.xet_store.specs.StoreModel.{StoreModel}

-- ---- calls that only ask

abbrev pub AsksErr : {T : Type 0} → (Result T Refusal → Type 0) → Option Refusal → Type 0
AsksErr P None = Unit {0}
AsksErr P (Some IOError) = Unit {0}
AsksErr P (Some why) = P (Err why)

-- P holds of the answer, its text aside, or the outside failed or memory was wanting
abbrev pub Asks : {T : Type 0} → (Result T Refusal → Type 0) → Result T ClientError → Type 0
Asks P (Ok x) = P (Ok x)
Asks P (Err e) = AsksErr P (refusal_of e)

-- ---- commands

-- a model is told, and P holds of it
abbrev pub Leaves : (StoreModel → Type 0) → Option StoreModel → Type 0
Leaves P None = ⊥
Leaves P (Some new) = P new

abbrev pub FollowsErr : {T : Type 0} → (Result T Refusal → StoreModel → Type 0) → StoreModel → Option Refusal → Option StoreModel → Type 0
FollowsErr Does old None after = after ≡ Some old
FollowsErr Does old (Some IOError) after = after ≡ Some old
FollowsErr Does old (Some why) after = Leaves (Does (Err why)) after

-- A command may answer this, its text aside, and leave the model that is told then. Where the outside fails or memory is wanting
-- the model stays.
abbrev pub Follows : {T : Type 0} → (Result T Refusal → StoreModel → Type 0) → StoreModel → Result T ClientError → Option StoreModel → Type 0
Follows Does old (Ok x) after = Leaves (Does (Ok x)) after
Follows Does old (Err e) after = FollowsErr Does old (refusal_of e) after
