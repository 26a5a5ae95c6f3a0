-- Xorbs that are given as a list.
use Rattle.std.specs.Prelude.{◌≡◌, ℕ, List, [], ◌∷◌, Option, Some, None, Result, Ok, Err, if◌then◌else◌}
use Rattle.std.specs.List.{AllByRecursion}
use Rattle.std.specs.Global.{Vec}
use Rattle.xet_types.specs.Names.{same_hash}
use Rattle.xet_types.specs.declared.error.ClientError.{ClientError}
use Rattle.xet_types.specs.declared.error.ClientError.TheVariants.{FormatError, InvalidRange, InvalidArguments, FileNotFound, XORBNotFound, PresignedUrlExpirationError, IOError, Other, InvalidKey, CacheError, HttpStatus, OutOfMemory}
use Rattle.xet_types.specs.declared.error.Refusal.TheVariants as refusals
use Rattle.xet_xorb.specs.Values.{Xorb}
use Rattle.xet_shard.specs.declared.listing.Segment.{Segment}
use Rattle.xet_plan.specs.Places.{Known, Placed, place, fault, first_of}
use Rattle.xet_plan.specs.FileBytes.{Content}
use Rattle.xet_plan.specs.Cuts.{IsReadable}

-- what stands beside the first of these hashes that is h
abbrev pub first_named : {X : Type 0} → List ℕ → List (List ℕ × X) → Option X
first_named h [] = None
first_named h (x ∷ xs) = if same_hash x.0 h then Some x.1 else first_named h xs

-- what is known of xorbs, each beside its hash
abbrev pub known_in : List (List ℕ × Xorb) → Known
known_in xorbs h = first_named h xorbs

abbrev pub items_of : Option (Vec (List ℕ)) → Option (List (List ℕ))
items_of None = None
items_of (Some chunks) = Some chunks.items

-- the chunks of xorbs, each list beside the xorb's hash
abbrev pub content_in : List (List ℕ × Vec (List ℕ)) → Content
content_in xorbs h = items_of (first_named h xorbs)

-- a segment is readable, or why it isn't
abbrev pub ReadsSegment : Known → Segment → Result (Unit {0}) ClientError → Type 0
ReadsSegment known s (Ok done) = IsReadable known (place 0 s)
ReadsSegment known s (Err (FormatError f)) = fault known s ≡ Some (refusals.FormatError f)
ReadsSegment known s (Err (XORBNotFound h)) = fault known s ≡ Some (refusals.XORBNotFound h)
ReadsSegment known s (Err IOError) = ⊥
ReadsSegment known s (Err OutOfMemory) = ⊥
ReadsSegment known s (Err InvalidRange) = ⊥
ReadsSegment known s (Err InvalidArguments) = ⊥
ReadsSegment known s (Err (FileNotFound h)) = ⊥
ReadsSegment known s (Err PresignedUrlExpirationError) = ⊥
ReadsSegment known s (Err (Other text)) = ⊥
ReadsSegment known s (Err (InvalidKey text)) = ⊥
ReadsSegment known s (Err (CacheError text)) = ⊥
ReadsSegment known s (Err (HttpStatus status)) = ⊥

-- segments are readable, or the first fault of one
abbrev pub ReadsAll : Known → List Placed → Result (Unit {0}) ClientError → Type 0
ReadsAll known ps (Ok done) = (first_of known ps ≡ None) × AllByRecursion (IsReadable known) ps
ReadsAll known ps (Err (FormatError f)) = first_of known ps ≡ Some (refusals.FormatError f)
ReadsAll known ps (Err (XORBNotFound h)) = first_of known ps ≡ Some (refusals.XORBNotFound h)
ReadsAll known ps (Err IOError) = ⊥
ReadsAll known ps (Err OutOfMemory) = ⊥
ReadsAll known ps (Err InvalidRange) = ⊥
ReadsAll known ps (Err InvalidArguments) = ⊥
ReadsAll known ps (Err (FileNotFound h)) = ⊥
ReadsAll known ps (Err PresignedUrlExpirationError) = ⊥
ReadsAll known ps (Err (Other text)) = ⊥
ReadsAll known ps (Err (InvalidKey text)) = ⊥
ReadsAll known ps (Err (CacheError text)) = ⊥
ReadsAll known ps (Err (HttpStatus status)) = ⊥
