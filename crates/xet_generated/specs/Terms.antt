-- The terms of a generated file, and the xorbs of their seeds.
use Rattle.std.specs.Prelude.{ℕ, ◌==◌, ◌^◌, ◌<◌, max, List, [], ◌∷◌, All, length, map, slice_range, if◌then◌else◌}
use Rattle.std.specs.List.{AllByRecursion, flat_map}
use Rattle.std.specs.Ordering.{nat_cmp}
use Rattle.std.specs.FinMap.{entries, from_entries}
use Rattle.xet_xorb.specs.ChunkLists.{IsWellFormed}
use Rattle.xet_xorb.specs.Generated.{seeded_chunks}

-- a xorb's chunks
abbrev pub Chunks : Type 0
Chunks = List (List ℕ)

-- a term: a seed, and a range of the chunks of the seed's xorb, whose end isn't included
abbrev pub Term : Type 0
Term = ℕ × (ℕ × ℕ)

-- the greatest end of the terms of a seed, 0 where it has none
abbrev pub greatest_end : List Term → ℕ → ℕ
greatest_end [] seed = 0
greatest_end (t ∷ ts) seed = if t.0 == seed then max t.1.1 (greatest_end ts seed) else greatest_end ts seed

-- the seeds of the terms in rising order, each once, and each with the greatest end of its terms
unfoldable pub ends_of : List Term → List (ℕ × ℕ)
ends_of terms = entries (from_entries {R = nat_cmp} (map (λ t. (t.0, greatest_end terms t.0)) terms))

-- the xorb of a seed: as many chunks as the greatest end of its terms says, all of one length
unfoldable pub xorb_of : List Term → ℕ → ℕ → Chunks
xorb_of terms size seed = seeded_chunks seed (greatest_end terms seed) size

-- the xorb of each seed, in rising order of the seeds
unfoldable pub xorbs_of : List Term → ℕ → List Chunks
xorbs_of terms size = map (λ e. seeded_chunks e.0 e.1 size) (ends_of terms)

-- the chunks of a term
abbrev pub term_chunks : List Term → ℕ → Term → Chunks
term_chunks terms size t = slice_range (xorb_of terms size t.0) t.1.0 t.1.1

-- the chunks of the file: those of its terms, in their order
abbrev pub file_chunks : List Term → ℕ → Chunks
file_chunks terms size = flat_map (term_chunks terms size) terms

-- the term has a chunk: its range isn't empty or reversed
abbrev pub HasChunk : Term → Type 0
HasChunk t = t.1.0 < t.1.1

-- there are fewer than 2^32 terms, each has a chunk, and each seed's chunks are those of a xorb
pub record CanGenerate (terms : List Term) (size : ℕ) : Type 0 where
  pub few : length terms < 2 ^ 32
  pub some : All HasChunk terms
  pub xorbs : AllByRecursion IsWellFormed (xorbs_of terms size)
