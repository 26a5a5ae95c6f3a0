-- Text that reaches a sink by pages.
use Rattle.std.specs.Prelude.{◌≡◌, ℕ, ◌≤◌, List, [], ◌++◌, length, take, Bool, true, false, Option, Result, Ok, Err}
use Rattle.std.specs.Io.KnownBytes.{Appends}
use Rattle.xet_types.specs.Faults.{Rose}

-- what a page holds, and whether the sink has failed
pub record PageText : Type 0 where
  pub text : List ℕ
  pub failed : Bool

abbrev pub blank : PageText
blank = record { text = []; failed = false }

abbrev pub with_text : PageText → List ℕ → PageText
with_text page text = record page { text = text }

-- a sink's bytes and count of faults, and the page before it
pub record Output : Type 0 where
  pub taken : Option (List ℕ)
  pub faults : ℕ
  pub text : List ℕ
  pub failed : Bool

abbrev pub output : Option (List ℕ) → ℕ → PageText → Output
output taken faults page = record { taken = taken; faults = faults; text = page.text; failed = page.failed }

-- Of the text that was printed since the sink's bytes and count of faults were `start` and `before`, the sink has a front.
-- While it hasn't failed, the page has the rest.
pub record Holds (start : Option (List ℕ)) (before : ℕ) (printed : List ℕ) (out : Output) : Type 0 where
  pub written : List ℕ
  pub rest : List ℕ
  pub printed_is : printed ≡ written ++ rest
  pub taken : Appends start out.taken written
  pub rose : out.failed ≡ true → Rose before out.faults
  pub unfailed : out.failed ≡ false → (rest ≡ out.text) × (out.faults ≡ before)

-- this text was printed, and nothing else
pub record Prints (old new : Output) (text : List ℕ) : Type 0 where
  pub holds : (start : Option (List ℕ)) (before : ℕ) (printed : List ℕ) → Holds start before printed old → Holds start before (printed ++ text) new

-- A front was written, and its bytes were the sink's only new ones.
pub record WritesFront (old new : Option (List ℕ)) (bytes : List ℕ) : Type 0 where
  pub count : ℕ
  pub within : count ≤ length bytes
  pub appends : Appends old new (take count bytes)

-- All was written, or a front of it and the count rose.
abbrev pub Writes : {E : Type 0} → Option (List ℕ) → Option (List ℕ) → ℕ → ℕ → List ℕ → Result (Unit {0}) E → Type 0
Writes old new before now bytes (Ok done) = Appends old new bytes × (now ≡ before)
Writes old new before now bytes (Err e) = WritesFront old new bytes × Rose before now
