-- The refusals of the calls of any store, whatever is told.
use Rattle.std.specs.Prelude.{◌≡◌, ℕ, List, Option, Some, None, Result, Ok, Err}
use Rattle.xet_types.specs.declared.error.ClientError.{ClientError}
use Rattle.xet_types.specs.declared.error.Refusal.{Refusal}
use Rattle.xet_types.specs.declared.error.Refusal.TheVariants.{FormatError, InvalidRange, InvalidArguments, FileNotFound, XORBNotFound, PresignedUrlExpirationError, IOError, Other}
use Rattle.xet_types.specs.declared.error.FormatFault.TheVariants as faults
use Rattle.xet_types.specs.Faults.{refusal_of}

abbrev pub IsRefused : (Refusal → Type 0) → Option Refusal → Type 0
IsRefused P None = Unit {0}
IsRefused P (Some why) = P why

-- an error is one of these refusals, or want of memory
abbrev pub RefusedBy : {T : Type 0} → (Refusal → Type 0) → Result T ClientError → Type 0
RefusedBy P (Ok x) = Unit {0}
RefusedBy P (Err e) = IsRefused P (refusal_of e)

-- the outside failed
abbrev pub OfOutside : Refusal → Type 0
OfOutside IOError = Unit {0}
OfOutside why = ⊥

-- the bytes aren't a xorb's, or the chunks' hash isn't the name
abbrev pub OfXorbUpload : Refusal → Type 0
OfXorbUpload (FormatError faults.Xorb) = Unit {0}
OfXorbUpload Other = Unit {0}
OfXorbUpload why = OfOutside why

-- the bytes aren't a shard's
abbrev pub OfShardUpload : Refusal → Type 0
OfShardUpload (FormatError faults.Shard) = Unit {0}
OfShardUpload why = OfOutside why

-- the shard isn't stored
abbrev pub OfShardDeletion : Refusal → Type 0
OfShardDeletion Other = Unit {0}
OfShardDeletion why = OfOutside why

-- the shard isn't stored, or isn't there any more, or not whole
abbrev pub OfShardText : Refusal → Type 0
OfShardText Other = Unit {0}
OfShardText (FormatError faults.Shard) = Unit {0}
OfShardText why = OfOutside why

-- a check fails, or something that was stored isn't there any more, or not whole
abbrev pub OfCheck : Refusal → Type 0
OfCheck Other = Unit {0}
OfCheck (FormatError faults.Shard) = Unit {0}
OfCheck (FormatError faults.Xorb) = Unit {0}
OfCheck why = OfOutside why

-- a shard that was stored isn't there any more, or not whole
abbrev pub OfListing : Refusal → Type 0
OfListing (FormatError faults.Shard) = Unit {0}
OfListing why = OfOutside why

-- the file isn't live
abbrev pub OfFileSize : List ℕ → Refusal → Type 0
OfFileSize file (FileNotFound f) = f ≡ file
OfFileSize file why = OfListing why

-- the xorb isn't stored, or isn't there any more, or not whole
abbrev pub OfXorb : List ℕ → Refusal → Type 0
OfXorb hash (XORBNotFound h) = h ≡ hash
OfXorb hash (FormatError faults.Xorb) = Unit {0}
OfXorb hash why = OfOutside why

-- or the range is outside the xorb
abbrev pub OfXorbBytes : List ℕ → Refusal → Type 0
OfXorbBytes hash InvalidRange = Unit {0}
OfXorbBytes hash why = OfXorb hash why

-- a met segment can't be read, or the range is refused
abbrev pub OfPlan : Refusal → Type 0
OfPlan (XORBNotFound h) = Unit {0}
OfPlan (FormatError faults.Segment) = Unit {0}
OfPlan (FormatError faults.Xorb) = Unit {0}
OfPlan InvalidRange = Unit {0}
OfPlan why = OfListing why

-- or the file isn't live
abbrev pub OfFileData : List ℕ → Refusal → Type 0
OfFileData file (FileNotFound f) = f ≡ file
OfFileData file why = OfPlan why

-- the setting has no such value
abbrev pub OfSetting : Refusal → Type 0
OfSetting InvalidArguments = Unit {0}
OfSetting why = OfOutside why

-- the link isn't one of version 1 of these bytes, or is expired; its xorb isn't stored, isn't there any more or not whole, or hasn't the
-- chunks
abbrev pub OfTerm : Refusal → Type 0
OfTerm InvalidArguments = Unit {0}
OfTerm PresignedUrlExpirationError = Unit {0}
OfTerm (XORBNotFound h) = Unit {0}
OfTerm (FormatError faults.Xorb) = Unit {0}
OfTerm InvalidRange = Unit {0}
OfTerm why = OfOutside why

-- the chunks aren't those of a xorb
abbrev pub OfGenerated : Refusal → Type 0
OfGenerated InvalidArguments = Unit {0}
OfGenerated why = OfOutside why
