-- Where the bytes of a file lie in its segments.
use Rattle.std.specs.Prelude.{ℕ, ◌+◌, ◌==◌, ◌&&◌, nat_lt, nat_le, min, max, Bool, if◌then◌else◌, List, [], ◌∷◌, sum, length, filter, Option, Some, None, slice_range}
use Rattle.xet_types.specs.declared.range.Range.{Range}
use Rattle.xet_types.specs.declared.range._F.{_F}
use Rattle.xet_types.specs.declared.error.Refusal.{Refusal}
use Rattle.xet_types.specs.declared.error.Refusal.TheVariants.{XORBNotFound, FormatError}
use Rattle.xet_types.specs.declared.error.FormatFault.TheVariants.{Segment as AtSegment}
use Rattle.xet_xorb.specs.Values.{Xorb}
use Rattle.xet_shard.specs.declared.listing.Segment.{Segment}
use Rattle.xet_shard.specs.Values.{listed_length}
use Rattle.xet_plan.specs.declared.place.Reach.{Reach}
use Rattle.xet_plan.specs.declared.place.Reach.TheVariants.{Past, Reversed, Within}

-- the numbers from start up to end, which is excluded
pub record Interval : Type 0 where
  pub start : ℕ
  pub end : ℕ

abbrev pub interval : ℕ → ℕ → Interval
interval start end = record { start = start; end = end }

-- a segment, and how many bytes of the file stand before it
pub record Placed : Type 0 where
  pub at : ℕ
  pub segment : Segment

abbrev pub place : ℕ → Segment → Placed
place at segment = record { at = at; segment = segment }

-- the segments one behind the other, the first of which begins at a place
abbrev pub placed : ℕ → List Segment → List Placed
placed at [] = []
placed at (s ∷ ss) = place at s ∷ placed (at + listed_length s) ss

-- what a range reaches of a file of this size: the whole file where there is no range, else the range clipped to the size. A start
-- at or past the size reaches nothing, but for a start of 0 of the empty file, and no more does an end that isn't above the start
abbrev pub reach : ℕ → Option (Range ℕ _F) → Reach
reach size None = Within 0 size
reach size (Some r) =
    if size == 0 && r.start == 0 then Within 0 0
    else (if nat_le size r.start then Past
    else (if nat_le r.end r.start then Reversed
    else Within r.start (min r.end size)))

-- some byte of the interval is among so many bytes at a place
abbrev pub meets : Interval → ℕ → ℕ → Bool
meets clip at length = nat_lt (max clip.start at) (min clip.end (at + length))

-- the segments that the interval meets, in file order, of those of which the first begins at a place
abbrev pub met_from : Interval → ℕ → List Segment → List Placed
met_from clip at segments = filter (λ p. meets clip p.at (listed_length p.segment)) (placed at segments)

-- the segments of a file that the interval meets, in file order
abbrev pub met_segments : Interval → List Segment → List Placed
met_segments clip segments = met_from clip 0 segments

-- the lengths of a segment's chunks, in its xorb
abbrev pub lengths_in : Segment → Xorb → List ℕ
lengths_in s xorb = slice_range xorb.lengths s.chunk_index_start s.chunk_index_end

-- the segment's chunk range is neither empty nor reversed and ends within the xorb, and its chunks sum to the listed length
abbrev pub agrees : Segment → Xorb → Bool
agrees s xorb = nat_lt s.chunk_index_start s.chunk_index_end && nat_le s.chunk_index_end (length xorb.lengths) && (sum (lengths_in s xorb) == listed_length s)

-- the stored xorbs by their hashes
abbrev pub Known : Type 0
Known = List ℕ → Option Xorb

-- why a segment can't be read, if it can't: its xorb isn't stored, or it disagrees with it
abbrev pub fault_at : Segment → Option Xorb → Option Refusal
fault_at s None = Some (XORBNotFound s.xorb_hash)
fault_at s (Some xorb) = if agrees s xorb then None else Some (FormatError AtSegment)

abbrev pub fault : Known → Segment → Option Refusal
fault known s = fault_at s (known s.xorb_hash)

abbrev pub or_else : {X : Type 0} → Option X → Option X → Option X
or_else None o = o
or_else (Some x) o = Some x

-- the fault of the first, in file order, that has one
abbrev pub first_of : Known → List Placed → Option Refusal
first_of known [] = None
first_of known (p ∷ ps) = or_else (fault known p.segment) (first_of known ps)

-- the fault of the first met segment, in file order, that has one
abbrev pub first_fault : Known → Interval → List Segment → Option Refusal
first_fault known clip segments = first_of known (met_segments clip segments)
