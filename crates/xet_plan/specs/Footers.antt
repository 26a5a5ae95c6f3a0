-- What the footers of xorbs answer.
use Rattle.std.specs.Prelude.{◌≡◌, ℕ, ◌≤◌, Some, None, Result, Ok, Err, List}
use Rattle.std.specs.Arc.{arc_value}
use Rattle.std.specs.Global.{Global}
use Rattle.std.specs.declared.sync.Arc.{Arc}
use Rattle.xet_types.specs.Faults.{Rose}
use Rattle.xet_types.specs.declared.error.ClientError.{ClientError}
use Rattle.xet_types.specs.declared.error.ClientError.TheVariants.{FormatError, InvalidRange, InvalidArguments, FileNotFound, XORBNotFound, PresignedUrlExpirationError, IOError, Other, InvalidKey, CacheError, HttpStatus, OutOfMemory}
use Rattle.xet_types.specs.declared.error.FormatFault.TheVariants.{Xorb as AtXorb}
use Rattle.xet_xorb.specs.Values.{Xorb}
use Rattle.xet_plan.specs.Places.{Known}

-- an answer over footers that tell their map: the xorb of the hash, or that there is none. The outside may fail
abbrev pub Gives : Known → List ℕ → Result (Arc Xorb Global) ClientError → Type 0
Gives known h (Ok xorb) = known h ≡ Some (arc_value xorb)
Gives known h (Err (XORBNotFound g)) = (g ≡ h) × (known h ≡ None)
Gives known h (Err IOError) = Unit {0}
Gives known h (Err OutOfMemory) = Unit {0}
Gives known h (Err (FormatError f)) = ⊥
Gives known h (Err InvalidRange) = ⊥
Gives known h (Err InvalidArguments) = ⊥
Gives known h (Err (FileNotFound g)) = ⊥
Gives known h (Err PresignedUrlExpirationError) = ⊥
Gives known h (Err (Other text)) = ⊥
Gives known h (Err (InvalidKey text)) = ⊥
Gives known h (Err (CacheError text)) = ⊥
Gives known h (Err (HttpStatus status)) = ⊥

-- the refusals of a footer, whatever is told
abbrev pub IsFooterRefusal : List ℕ → ClientError → Type 0
IsFooterRefusal h (XORBNotFound g) = g ≡ h
IsFooterRefusal h (FormatError f) = f ≡ AtXorb
IsFooterRefusal h IOError = Unit {0}
IsFooterRefusal h OutOfMemory = Unit {0}
IsFooterRefusal h InvalidRange = ⊥
IsFooterRefusal h InvalidArguments = ⊥
IsFooterRefusal h (FileNotFound g) = ⊥
IsFooterRefusal h PresignedUrlExpirationError = ⊥
IsFooterRefusal h (Other text) = ⊥
IsFooterRefusal h (InvalidKey text) = ⊥
IsFooterRefusal h (CacheError text) = ⊥
IsFooterRefusal h (HttpStatus status) = ⊥

-- the count of faults never falls, and `IOError` comes only where it rose
pub record FailsOnlyByFault {T : Type 0} (before now : ℕ) (result : Result T ClientError) : Type 0 where
  pub later : before ≤ now
  pub failed : result ≡ Err IOError → Rose before now
