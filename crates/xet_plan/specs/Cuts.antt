-- What the planner keeps of a met segment.
use Rattle.std.specs.Prelude.{◌≡◌, ℕ, ◌<◌, List, [], ◌∷◌, Option, Some, None, Result, Ok, Err, All, true, map, ◌⊎◌}
use Rattle.std.specs.List.{sum_by, AllByRecursion}
use Rattle.std.specs.Global.{Vec}
use Rattle.std.specs.Arc.{arc_value}
use Rattle.xet_types.specs.declared.error.ClientError.{ClientError}
use Rattle.xet_types.specs.declared.error.ClientError.TheVariants.{FormatError, InvalidRange, InvalidArguments, FileNotFound, XORBNotFound, PresignedUrlExpirationError, IOError, Other, InvalidKey, CacheError, HttpStatus, OutOfMemory}
use Rattle.xet_types.specs.declared.error.FormatFault.TheVariants.{Xorb as AtXorb, Segment as AtSegment}
use Rattle.xet_types.specs.declared.error.Refusal.TheVariants as refusals
use Rattle.xet_xorb.specs.Values.{Xorb}
use Rattle.xet_xorb.specs.Lengths.{packed_before}
use Rattle.xet_shard.specs.declared.listing.Segment.{Segment}
use Rattle.xet_plan.specs.declared.place.Cut.{Cut}
use Rattle.xet_plan.specs.declared.place.Recent.{Recent}
use Rattle.xet_plan.specs.Places.{Interval, Placed, Known, agrees, fault, met_segments, first_fault}
use Rattle.xet_plan.specs.MetChunks.{Chunk, span, kept}

abbrev pub first_at : List Chunk → ℕ
first_at [] = 0
first_at (c ∷ cs) = c.at

-- chunks of one xorb with these lengths, which lie one behind the other, as one cut
abbrev pub cut_from : List ℕ → List ℕ → List Chunk → Cut
cut_from hash lengths chunks = record {
  hash = hash;
  start = (span chunks).start;
  end = (span chunks).end;
  at = first_at chunks;
  length = sum_by (λ c. c.length) chunks;
  byte_start = packed_before lengths (span chunks).start;
  byte_end = packed_before lengths (span chunks).end;
}

abbrev pub object_lengths : Option Xorb → List ℕ
object_lengths None = []
object_lengths (Some xorb) = xorb.lengths

-- the cut of what is kept of a segment
abbrev pub cut_at : Known → Interval → Placed → Cut
cut_at known clip p = cut_from p.segment.xorb_hash (object_lengths (known p.segment.xorb_hash)) (kept known clip p)

-- the segment's xorb is known, none of its chunks is empty, and those of the segment are as listed
pub record IsReadable (known : Known) (p : Placed) : Type 0 where
  pub xorb : Xorb
  pub is : known p.segment.xorb_hash ≡ Some xorb
  pub agrees : agrees p.segment xorb ≡ true
  pub nonempty : All (λ n. 0 < n) xorb.lengths

-- the recent object, if there is one, is that of its hash
abbrev pub IsRecent : Known → Option Recent → Type 0
IsRecent known None = Unit {0}
IsRecent known (Some recent) = known recent.hash ≡ Some (arc_value recent.object)

-- what a met segment gives
abbrev pub CutAnswer : Known → Interval → Placed → Result Cut ClientError → Type 0
CutAnswer known clip p (Ok cut) = IsReadable known p × (cut ≡ cut_at known clip p)
CutAnswer known clip p (Err (FormatError f)) = fault known p.segment ≡ Some (refusals.FormatError f)
CutAnswer known clip p (Err (XORBNotFound h)) = fault known p.segment ≡ Some (refusals.XORBNotFound h)
CutAnswer known clip p (Err IOError) = Unit {0}
CutAnswer known clip p (Err OutOfMemory) = Unit {0}
CutAnswer known clip p (Err InvalidRange) = ⊥
CutAnswer known clip p (Err InvalidArguments) = ⊥
CutAnswer known clip p (Err (FileNotFound h)) = ⊥
CutAnswer known clip p (Err PresignedUrlExpirationError) = ⊥
CutAnswer known clip p (Err (Other text)) = ⊥
CutAnswer known clip p (Err (InvalidKey text)) = ⊥
CutAnswer known clip p (Err (CacheError text)) = ⊥
CutAnswer known clip p (Err (HttpStatus status)) = ⊥

-- what all met segments give, in file order
abbrev pub CutsAnswer : Known → Interval → List Segment → Result (Vec Cut) ClientError → Type 0
CutsAnswer known clip segments (Ok cuts) = (first_fault known clip segments ≡ None) × AllByRecursion (IsReadable known) (met_segments clip segments) × (cuts.items ≡ map (cut_at known clip) (met_segments clip segments))
CutsAnswer known clip segments (Err (FormatError f)) = first_fault known clip segments ≡ Some (refusals.FormatError f)
CutsAnswer known clip segments (Err (XORBNotFound h)) = first_fault known clip segments ≡ Some (refusals.XORBNotFound h)
CutsAnswer known clip segments (Err IOError) = Unit {0}
CutsAnswer known clip segments (Err OutOfMemory) = Unit {0}
CutsAnswer known clip segments (Err InvalidRange) = ⊥
CutsAnswer known clip segments (Err InvalidArguments) = ⊥
CutsAnswer known clip segments (Err (FileNotFound h)) = ⊥
CutsAnswer known clip segments (Err PresignedUrlExpirationError) = ⊥
CutsAnswer known clip segments (Err (Other text)) = ⊥
CutsAnswer known clip segments (Err (InvalidKey text)) = ⊥
CutsAnswer known clip segments (Err (CacheError text)) = ⊥
CutsAnswer known clip segments (Err (HttpStatus status)) = ⊥

-- the xorb is that of one of these segments
abbrev pub Names : List Placed → List ℕ → Type 0
Names [] h = ⊥
Names (p ∷ ps) h = (p.segment.xorb_hash ≡ h) ⊎ Names ps h

-- the refusals of the met segments, whatever is told: those of their footers, and that one disagrees with its xorb
abbrev pub IsPlanRefusal : Interval → List Segment → ClientError → Type 0
IsPlanRefusal clip segments (FormatError f) = (f ≡ AtXorb) ⊎ (f ≡ AtSegment)
IsPlanRefusal clip segments (XORBNotFound h) = Names (met_segments clip segments) h
IsPlanRefusal clip segments IOError = Unit {0}
IsPlanRefusal clip segments OutOfMemory = Unit {0}
IsPlanRefusal clip segments InvalidRange = ⊥
IsPlanRefusal clip segments InvalidArguments = ⊥
IsPlanRefusal clip segments (FileNotFound h) = ⊥
IsPlanRefusal clip segments PresignedUrlExpirationError = ⊥
IsPlanRefusal clip segments (Other text) = ⊥
IsPlanRefusal clip segments (InvalidKey text) = ⊥
IsPlanRefusal clip segments (CacheError text) = ⊥
IsPlanRefusal clip segments (HttpStatus status) = ⊥
