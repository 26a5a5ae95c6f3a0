-- The state of a service.
use Rattle.std.specs.Prelude.{◌≡◌, ℕ, ◌<◌, ◌≤◌, List, [], ◌∷◌, Some}
use Rattle.std.specs.Ordering.{nat_cmp}
use Rattle.std.specs.List.{AllByRecursion}
use Rattle.std.specs.FinMap.{FinMap, get}
use Rattle.xet_types.specs.Ranges.{last_place}
use Rattle.xet_types.specs.declared.record.XorbRangeDescriptor.{XorbRangeDescriptor}
use Rattle.std.specs.FinMap as finmap
use Rattle.xet_store.specs.StoreModel.{StoreModel, empty}
use Rattle.xet_service.specs.declared.read.OpenRead.{OpenRead}
use Rattle.xet_service.specs.declared.reader.link.ReadLink.{ReadLink}

-- the open reads by number
abbrev pub Reads : Type 0
Reads = FinMap nat_cmp OpenRead

-- a store, the open reads, and the next number
pub record State : Type 0 where
  pub store : StoreModel
  pub reads : Reads
  pub next : ℕ

abbrev pub state : StoreModel → Reads → ℕ → State
state store reads next = record { store = store; reads = reads; next = next }

-- no xorbs, no shards, no open reads, and the number 0
abbrev pub start : State
start = state empty finmap.empty 0

-- each range's bytes begin no earlier than those of the one before it, the first no earlier than a place
abbrev pub RisesFrom : ℕ → List XorbRangeDescriptor → Type 0
RisesFrom from [] = Unit {0}
RisesFrom from (r ∷ rs) = (from ≤ r.bytes.start) × RisesFrom r.bytes.start rs

-- the bytes of the link's ranges rise, and end below the last place
pub record IsOrderly (l : ReadLink) : Type 0 where
  pub rises : RisesFrom 0 l.ranges
  pub below : AllByRecursion (λ (r : XorbRangeDescriptor). r.bytes.end < last_place) l.ranges

-- the numbers of open reads were given, and the ranges of each of their links are in order
pub record IsInOrder (s : State) : Type 0 where
  pub numbered : (n : ℕ) (r : OpenRead) → get s.reads n ≡ Some r → n < s.next
  pub orderly : (n : ℕ) (r : OpenRead) → get s.reads n ≡ Some r → AllByRecursion IsOrderly r.reader.links
