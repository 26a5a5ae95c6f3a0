-- The bytes of a file, over any map from hashes to chunk lists.
use Rattle.std.specs.Prelude.{◌≡◌, ℕ, ◌-◌, List, [], ◌∷◌, length, map, take, drop, slice_range, Option, Some, None}
use Rattle.std.specs.List.{flat_map, concat}
use Rattle.xet_types.specs.declared.range.Range.{Range}
use Rattle.xet_types.specs.declared.range._F.{_F}
use Rattle.xet_types.specs.declared.record.XorbReconstructionTerm.{XorbReconstructionTerm}
use Rattle.xet_xorb.specs.Values.{Xorb}
use Rattle.xet_shard.specs.declared.listing.Segment.{Segment}
use Rattle.xet_plan.specs.Places.{Interval, Placed, Known, met_segments}

-- the chunks of xorbs, by the xorbs' hashes
abbrev pub Content : Type 0
Content = List ℕ → Option (List (List ℕ))

-- the chunks from a number up to another, which is excluded
abbrev pub chunks_between : Option (List (List ℕ)) → ℕ → ℕ → List (List ℕ)
chunks_between None start end = []
chunks_between (Some chunks) start end = slice_range chunks start end

-- a segment's chunks, joined
abbrev pub segment_bytes : Content → Segment → List ℕ
segment_bytes content s = concat (chunks_between (content s.xorb_hash) s.chunk_index_start s.chunk_index_end)

-- the chunks of the segments, laid down one behind the other
abbrev pub laid : Content → List Segment → List ℕ
laid content segments = flat_map (segment_bytes content) segments

abbrev pub first_place : List Placed → ℕ
first_place [] = 0
first_place (p ∷ ps) = p.at

abbrev pub segments_of : List Placed → List Segment
segments_of ps = map (λ p. p.segment) ps

-- the met segments laid down, and the interval cut out
abbrev pub file_bytes : Content → Interval → List Segment → List ℕ
file_bytes content clip segments =
    let met = met_segments clip segments in
    slice_range (laid content (segments_of met)) (clip.start - first_place met) (clip.end - first_place met)

-- a term's chunks, joined
abbrev pub term_bytes : Content → XorbReconstructionTerm → List ℕ
term_bytes content t = concat (chunks_between (content t.hash) t.range.start t.range.end)

-- the terms joined, less the offset, cut to a length
abbrev pub assembled : Content → List XorbReconstructionTerm → ℕ → ℕ → List ℕ
assembled content terms offset length = take length (drop offset (flat_map (term_bytes content) terms))

-- how long a range is, however far the file reaches; no range is as long as what it reaches
abbrev pub asked_length : Option (Range ℕ _F) → Interval → ℕ
asked_length None clip = clip.end - clip.start
asked_length (Some range) clip = range.end - range.start

-- each known xorb has the chunks of the content
abbrev pub Describes : Known → Content → Type 0
Describes known content = (h : List ℕ) (xorb : Xorb) → known h ≡ Some xorb → (chunks : List (List ℕ)) × (content h ≡ Some chunks) × (xorb.lengths ≡ map length chunks)
