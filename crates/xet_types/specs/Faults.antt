-- Errors without their texts, and counts of faults.
use Rattle.std.specs.Prelude.{◌≡◌, ℕ, ◌+◌, ◌-◌, ◌^◌, ◌≤◌, min, List, [], Bool, nat_eq, Option, Some, None, Result, OnErr, OnOk}
use Rattle.std.specs.Cmp.{IsEquivalence, nat_eq_equiv, on_equiv, and_equiv}
use Rattle.std.specs.Ordering.{on, eq_of_both}
use Rattle.std.specs.Cmp.Lexicographic.{pointwise, nat_list_eq_equiv}
use Rattle.xet_types.specs.declared.error.ClientError.{ClientError}
use Rattle.xet_types.specs.declared.error.ClientError.TheVariants.{FormatError, InvalidRange, InvalidArguments, FileNotFound, XORBNotFound, PresignedUrlExpirationError, IOError, Other, InvalidKey, CacheError, HttpStatus, OutOfMemory}
use Rattle.xet_types.specs.declared.error.Refusal.{Refusal}
use Rattle.xet_types.specs.declared.error.Refusal.TheVariants as refusals

-- the error without its text; none for want of memory
abbrev pub refusal_of : ClientError → Option Refusal
refusal_of (FormatError fault) = Some (refusals.FormatError fault)
refusal_of InvalidRange = Some refusals.InvalidRange
refusal_of InvalidArguments = Some refusals.InvalidArguments
refusal_of (FileNotFound hash) = Some (refusals.FileNotFound hash)
refusal_of (XORBNotFound hash) = Some (refusals.XORBNotFound hash)
refusal_of PresignedUrlExpirationError = Some refusals.PresignedUrlExpirationError
refusal_of IOError = Some refusals.IOError
refusal_of (Other text) = Some refusals.Other
refusal_of (InvalidKey text) = Some refusals.InvalidKey
refusal_of (CacheError text) = Some refusals.CacheError
refusal_of (HttpStatus status) = Some (refusals.HttpStatus status)
refusal_of OutOfMemory = None

-- the number of the variant
abbrev pub number_of : ClientError → ℕ
number_of (FormatError fault) = 1
number_of InvalidRange = 2
number_of InvalidArguments = 3
number_of (FileNotFound hash) = 4
number_of (XORBNotFound hash) = 5
number_of PresignedUrlExpirationError = 6
number_of IOError = 7
number_of (Other text) = 8
number_of (InvalidKey text) = 9
number_of (CacheError text) = 10
number_of (HttpStatus status) = 11
number_of OutOfMemory = 12

-- the hash that is compared
abbrev pub missing_of : ClientError → List ℕ
missing_of (XORBNotFound hash) = hash
missing_of (FormatError fault) = []
missing_of InvalidRange = []
missing_of InvalidArguments = []
missing_of (FileNotFound hash) = []
missing_of PresignedUrlExpirationError = []
missing_of IOError = []
missing_of (Other text) = []
missing_of (InvalidKey text) = []
missing_of (CacheError text) = []
missing_of (HttpStatus status) = []
missing_of OutOfMemory = []

-- xorbs that aren't found are compared by their hashes, all others by their variants
abbrev pub same_error : ClientError → ClientError → Bool
same_error = eq_of_both (on number_of nat_eq) (on missing_of (pointwise nat_eq))

pub same_error_equiv : IsEquivalence same_error
same_error_equiv = and_equiv (on_equiv number_of nat_eq_equiv) (on_equiv missing_of nat_list_eq_equiv)

-- a count rose, or stands at its type's end
abbrev pub Rose : ℕ → ℕ → Type 0
Rose before now = min (before + 1) (2 ^ 64 - 1) ≤ now

-- an error comes only where the count rose; it never falls, and rises only with an error
pub record HasCause {T E : Type 0} (before now : ℕ) (result : Result T E) : Type 0 where
  pub later : before ≤ now
  pub failed : OnErr result (Rose before now)
  pub kept : OnOk result (now ≡ before)
