-- What an upload of a generated file answers, and what it leaves.
use Rattle.std.specs.Prelude.{◌≡◌, ℕ, List, take, Option, Some, Result, Ok, Err}
use Rattle.xet_types.specs.declared.error.ClientError.{ClientError}
use Rattle.xet_types.specs.declared.error.ClientError.TheVariants.{InvalidArguments}
use Rattle.xet_generated.specs.Terms.{Term, xorbs_of}
use Rattle.xet_generated.specs.Contents.{FileModel}
use Rattle.xet_store.specs.StoreModel.{StoreModel, Chunks}
use Rattle.xet_store.specs.Commands.{with_absent, with_all_absent, with_generated}

-- the first of these xorbs are stored
pub record StoresSome (old : StoreModel) (xorbs : List Chunks) (after : Option StoreModel) : Type 0 where
  pub count : ℕ
  pub stored : after ≡ Some (with_all_absent old (take count xorbs))

-- the xorb is stored, where none is under its name; a refused upload changes nothing
abbrev pub UploadsOne : StoreModel → Chunks → Result (Unit {0}) ClientError → Option StoreModel → Type 0
UploadsOne old chunks (Ok u) after = after ≡ Some (with_absent old chunks)
UploadsOne old chunks (Err e) after = after ≡ Some old

-- all are stored, or the first ones, up to the one that was refused
abbrev pub UploadsAll : StoreModel → List Chunks → Result (Unit {0}) ClientError → Option StoreModel → Type 0
UploadsAll old xorbs (Ok u) after = after ≡ Some (with_all_absent old xorbs)
UploadsAll old xorbs (Err e) after = StoresSome old xorbs after

-- The file is stored; terms that aren't those of a file change nothing; and where an upload is refused, those before it stay.
abbrev pub UploadsGenerated : StoreModel → List Term → ℕ → Result FileModel ClientError → Option StoreModel → Type 0
UploadsGenerated old terms size (Ok contents) after = after ≡ Some (with_generated old terms size)
UploadsGenerated old terms size (Err InvalidArguments) after = after ≡ Some old
UploadsGenerated old terms size (Err e) after = StoresSome old (xorbs_of terms size) after
