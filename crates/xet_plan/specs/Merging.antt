-- How cuts become ranges.
use Rattle.std.specs.Prelude.{◌≡◌, ℕ, ◌<◌, ◌≤◌, nat_lt, nat_le, ◌&&◌, Bool, if◌then◌else◌, List, [], ◌∷◌, ◌++◌, ◌⊎◌, map}
use Rattle.std.specs.List.{AllByRecursion}
use Rattle.std.specs.Global.{Vec}
use Rattle.xet_types.specs.Names.{same_hash}
use Rattle.xet_types.specs.declared.range.Range.{Range}
use Rattle.xet_types.specs.declared.range._F.{_F}
use Rattle.xet_plan.specs.declared.place.Cut.{Cut}
use Rattle.xet_plan.specs.declared.runs.MergedRange.{MergedRange}
use Rattle.xet_plan.specs.Places.{Interval, interval}
use Rattle.xet_plan.specs.MetChunks.{chunk_range}
use Rattle.xet_plan.specs.Runs.{Group, Before}

-- chunk k of the xorb h is in one of the cuts
abbrev pub CutsHave : List Cut → List ℕ → ℕ → Type 0
CutsHave [] h k = ⊥
CutsHave (c ∷ cs) h k = ((c.hash ≡ h) × (c.start ≤ k) × (k < c.end)) ⊎ CutsHave cs h k

-- a begins no later than b, in order of hash
abbrev pub From : Cut → Cut → Type 0
From a b = Before a.hash b.hash ⊎ ((a.hash ≡ b.hash) × (a.start ≤ b.start))

-- a ends before b begins, in order of hash, and doesn't touch it
abbrev pub Past : Cut → Cut → Type 0
Past a b = Before a.hash b.hash ⊎ ((a.hash ≡ b.hash) × (a.end < b.start))

abbrev pub InOrder : List Cut → Type 0
InOrder [] = Unit {0}
InOrder (c ∷ cs) = AllByRecursion (From c) cs × InOrder cs

abbrev pub Apart : List Cut → Type 0
Apart [] = Unit {0}
Apart (c ∷ cs) = AllByRecursion (Past c) cs × Apart cs

abbrev pub NoneEmpty : List Cut → Type 0
NoneEmpty cs = AllByRecursion (λ c. c.start < c.end) cs

-- the second overlaps or touches the first, of two in order
abbrev pub joins : Cut → Cut → Bool
joins a b = same_hash b.hash a.hash && nat_le b.start a.end

abbrev pub joined : Cut → Cut → Cut
joined a b = if nat_lt a.end b.end then record a { end = b.end; byte_end = b.byte_end } else a

abbrev pub merge_from : Cut → List Cut → List Cut
merge_from c [] = c ∷ []
merge_from c (d ∷ ds) = if joins c d then merge_from (joined c d) ds else c ∷ merge_from d ds

-- of cuts in order, those that overlap or touch made one
abbrev pub merged : List Cut → List Cut
merged [] = []
merged (c ∷ cs) = merge_from c cs

-- ranges under the hash of their xorb
abbrev pub Ranges : Type 0
Ranges = List ℕ × List MergedRange

abbrev pub byte_range : ℕ → ℕ → Range ℕ _F
byte_range start end = record { start = start; end = end; _marker = record {} }

abbrev pub range_of : Cut → MergedRange
range_of c = record { chunk_range = chunk_range c.start c.end; byte_range = byte_range c.byte_start c.byte_end }

abbrev pub ranges : List ℕ → List MergedRange → Ranges
ranges hash rs = (hash, rs)

abbrev pub group_from : List ℕ → List MergedRange → List Cut → List Ranges
group_from h rs [] = ranges h rs ∷ []
group_from h rs (c ∷ cs) = if same_hash c.hash h then group_from h (rs ++ range_of c ∷ []) cs else ranges h rs ∷ group_from c.hash (range_of c ∷ []) cs

-- neighbours of one hash in one list
abbrev pub grouped : List Cut → List Ranges
grouped [] = []
grouped (c ∷ cs) = group_from c.hash (range_of c ∷ []) cs

-- ranges as the list that they are
abbrev pub ranges_shown : (List ℕ × Vec MergedRange) → Ranges
ranges_shown g = (g.0, g.1.items)

abbrev pub chunks_part : MergedRange → Interval
chunks_part r = interval r.chunk_range.start r.chunk_range.end

-- their chunks
abbrev pub group_of : Ranges → Group
group_of g = record { hash = g.0; ranges = map chunks_part g.1 }

-- bytes lie where f says
abbrev pub CutAt : (List ℕ → ℕ → ℕ) → Cut → Type 0
CutAt f c = (c.byte_start ≡ f c.hash c.start) × (c.byte_end ≡ f c.hash c.end)

abbrev pub RangeAt : (List ℕ → ℕ → ℕ) → List ℕ → MergedRange → Type 0
RangeAt f h r = (r.byte_range.start ≡ f h r.chunk_range.start) × (r.byte_range.end ≡ f h r.chunk_range.end)

abbrev pub RangesAt : (List ℕ → ℕ → ℕ) → Ranges → Type 0
RangesAt f g = AllByRecursion (RangeAt f g.0) g.1
