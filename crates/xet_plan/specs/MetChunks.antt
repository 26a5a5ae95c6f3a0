-- Which chunks a range of a file meets.
use Rattle.std.specs.Prelude.{◌≡◌, Bool, ℕ, ◌+◌, ◌-◌, List, [], ◌∷◌, length, filter, map, Option, Some, None, ◌⊎◌}
use Rattle.std.specs.List.{sum_by, flat_map}
use Rattle.xet_types.specs.declared.range.Range.{Range}
use Rattle.xet_types.specs.declared.range._C.{_C}
use Rattle.xet_types.specs.declared.record.XorbReconstructionTerm.{XorbReconstructionTerm}
use Rattle.xet_xorb.specs.Values.{Xorb}
use Rattle.xet_shard.specs.declared.listing.Segment.{Segment}
use Rattle.xet_plan.specs.Places.{Interval, interval, Placed, Known, meets, met_segments, lengths_in}

-- a chunk of a xorb by its number, and where it lies in a file
pub record Chunk : Type 0 where
  pub hash : List ℕ
  pub number : ℕ
  pub at : ℕ
  pub length : ℕ

abbrev pub chunk : List ℕ → ℕ → ℕ → ℕ → Chunk
chunk hash number at length = record { hash = hash; number = number; at = at; length = length }

-- chunks of these lengths, numbered on from a number, laid down one behind the other from a place
abbrev pub lay : List ℕ → ℕ → ℕ → List ℕ → List Chunk
lay hash number at [] = []
lay hash number at (n ∷ ns) = chunk hash number at n ∷ lay hash (number + 1) (at + n) ns

abbrev pub is_met : Interval → Chunk → Bool
is_met clip c = meets clip c.at c.length

abbrev pub lengths_at : Segment → Option Xorb → List ℕ
lengths_at s None = []
lengths_at s (Some xorb) = lengths_in s xorb

-- a segment's chunks, laid down from its place
abbrev pub chunks_of : Known → Placed → List Chunk
chunks_of known p = lay p.segment.xorb_hash p.segment.chunk_index_start p.at (lengths_at p.segment (known p.segment.xorb_hash))

-- those of them that the interval meets
abbrev pub kept : Known → Interval → Placed → List Chunk
kept known clip p = filter (is_met clip) (chunks_of known p)

-- the chunks that the interval meets, in file order
abbrev pub met_chunks : Known → Interval → List Segment → List Chunk
met_chunks known clip segments = flat_map (kept known clip) (met_segments clip segments)

-- chunk k of the xorb h is among these
abbrev pub Has : List Chunk → List ℕ → ℕ → Type 0
Has [] h k = ⊥
Has (c ∷ cs) h k = ((c.hash ≡ h) × (c.number ≡ k)) ⊎ Has cs h k

abbrev pub chunk_range : ℕ → ℕ → Range ℕ _C
chunk_range start end = record { start = start; end = end; _marker = record {} }

-- from the number of the first to past that of the last
abbrev pub span : List Chunk → Interval
span [] = interval 0 0
span (c ∷ cs) = interval c.number (c.number + length (c ∷ cs))

-- chunks of a xorb as a term: their numbers and their summed length
abbrev pub term : List ℕ → List Chunk → XorbReconstructionTerm
term hash chunks = record { hash = hash; unpacked_length = sum_by (λ c. c.length) chunks; range = chunk_range (span chunks).start (span chunks).end }

-- for each met segment, in file order, its meeting chunks as a term
abbrev pub terms_of : Known → Interval → List Segment → List XorbReconstructionTerm
terms_of known clip segments = map (λ p. term p.segment.xorb_hash (kept known clip p)) (met_segments clip segments)

abbrev pub offset_in : ℕ → List Chunk → ℕ
offset_in start [] = 0
offset_in start (c ∷ cs) = start - c.at

-- how far the range begins behind the start of the first meeting chunk
abbrev pub offset_of : Known → Interval → List Segment → ℕ
offset_of known clip segments = offset_in clip.start (met_chunks known clip segments)
