-- The least that a plan can fetch, byte by byte.
use Rattle.std.specs.Prelude.{◌≡◌, ℕ, ◌+◌, ◌-◌, ◌<◌, ◌≤◌, nat_lt, if◌then◌else◌, List, [], ◌∷◌, length, Option, Some, None, IfSome, Contains, ◌↔◌}
use Rattle.std.specs.List.{AllByRecursion}
use Rattle.xet_shard.specs.declared.listing.Segment.{Segment}
use Rattle.xet_shard.specs.Values.{listed_length}
use Rattle.xet_plan.specs.Places.{Interval, Known}
use Rattle.xet_plan.specs.MetChunks.{lengths_at}
use Rattle.xet_plan.specs.Runs.{Covers, Group, InGroups}

-- a chunk of a xorb, by the xorb's hash and its number
abbrev pub Name : Type 0
Name = List ℕ × ℕ

-- the chunk that holds byte j of chunks with these lengths, which are numbered on from a number
abbrev pub chunk_at : List ℕ → ℕ → List ℕ → ℕ → Option Name
chunk_at hash number [] j = None
chunk_at hash number (n ∷ ns) j = if nat_lt j n then Some (hash, number) else chunk_at hash (number + 1) ns (j - n)

-- the source of byte j: the chunk that holds it
abbrev pub source : Known → List Segment → ℕ → Option Name
source known [] j = None
source known (s ∷ ss) j =
    if nat_lt j (listed_length s) then chunk_at s.xorb_hash s.chunk_index_start (lengths_at s (known s.xorb_hash)) j
    else source known ss (j - listed_length s)

-- these ranges hold the source of every byte of the interval, every list of chunks that holds these sources holds each of
-- their chunks, and no fewer intervals cover exactly the chunks of a xorb
pub record IsLeast (known : Known) (segments : List Segment) (clip : Interval) (groups : List Group) : Type 0 where
  pub holds : (j : ℕ) → clip.start ≤ j → j < clip.end → (c : Name) × (source known segments j ≡ Some c) × InGroups groups c.0 c.1
  pub least : (chunks : List Name) → ((j : ℕ) → clip.start ≤ j → j < clip.end → IfSome (source known segments j) (Contains chunks))
      → (h : List ℕ) (k : ℕ) → InGroups groups h k → Contains chunks (h, k)
  pub fewest : AllByRecursion (λ g. (others : List Interval) → ((k : ℕ) → Covers others k ↔ Covers g.ranges k) → length g.ranges ≤ length others) groups
