-- What an open read keeps, where one map gives each xorb that is met.
use Rattle.std.specs.Prelude.{◌≡◌, ℕ, ◌-◌, ◌<◌, ◌≤◌, ◌⊎◌, true, List, drop, length, map, Option, Some, None, slice_get, slice_range}
use Rattle.std.specs.List.{flat_map, AllByRecursion}
use Rattle.std.specs.FinMap.{get}
use Rattle.xet_types.specs.declared.record.XorbRangeDescriptor.{XorbRangeDescriptor}
use Rattle.xet_types.specs.declared.record.XorbReconstructionTerm.{XorbReconstructionTerm}
use Rattle.xet_xorb.specs.Lengths.{packed_before}
use Rattle.xet_xorb.specs.ChunkLists.{lengths_of, IsWellFormed}
use Rattle.xet_plan.specs.FileBytes.{Content, term_bytes}
use Rattle.xet_store.specs.StoreModel.{Chunks, IsSound}
use Rattle.xet_store.specs.Plans.{cut_to}
use Rattle.xet_service.specs.declared.read.OpenRead.{OpenRead}
use Rattle.xet_service.specs.declared.reader.held.HeldTerm.{HeldTerm}
use Rattle.xet_service.specs.declared.reader.link.ReadLink.{ReadLink}
use Rattle.xet_service.specs.Reading.{Reading, count_left, have_lengths}
use Rattle.xet_service.specs.World.{RisesFrom}
use Rattle.xet_service.specs.Runs.{World}

-- the chunks of a link's range
abbrev pub cut_chunks : Chunks → XorbRangeDescriptor → Chunks
cut_chunks all range = slice_range all range.chunks.start range.chunks.end

-- the chunks of a link's ranges
abbrev pub all_chunks : Chunks → List XorbRangeDescriptor → List Chunks
all_chunks all ranges = map (cut_chunks all) ranges

-- The range is of chunks that the list has, and its bytes are where these lie.
pub record GoodRange (all : Chunks) (range : XorbRangeDescriptor) : Type 0 where
  pub some : range.chunks.start < range.chunks.end
  pub inside : range.chunks.end ≤ length all
  pub first : range.bytes.start ≡ packed_before (lengths_of all) range.chunks.start
  pub last : range.bytes.end ≡ packed_before (lengths_of all) range.chunks.end - 1

-- The link's ranges are of chunks that the map's list has, and their bytes rise; the terms that it holds have their chunks' lengths; and
-- what it brought is these chunks.
pub record GoodLink (m : Content) (l : ReadLink) : Type 0 where
  pub all : Chunks
  pub is : m l.hash ≡ Some all
  pub formed : IsWellFormed all
  pub each : AllByRecursion (GoodRange all) l.ranges
  pub rises : RisesFrom 0 l.ranges
  pub fit : have_lengths (all_chunks all l.ranges) l.held ≡ true
  pub brought : (l.got ≡ None) ⊎ (l.got ≡ Some (all_chunks all l.ranges))

-- the term lies in a range of a link
pub record IsHeldIn (links : List ReadLink) (h : HeldTerm) : Type 0 where
  pub link : ReadLink
  pub there : slice_get links h.range.link ≡ Some link
  pub hash : link.hash ≡ h.term.hash
  pub range : XorbRangeDescriptor
  pub at : slice_get link.ranges h.range.number ≡ Some range
  pub from : h.range.chunks.start ≡ range.chunks.start
  pub low : range.chunks.start ≤ h.term.range.start
  pub rises : h.term.range.start ≤ h.term.range.end
  pub high : h.term.range.end ≤ range.chunks.end

abbrev pub term_of : HeldTerm → XorbReconstructionTerm
term_of h = h.term

-- some link is left, each link is good, each term is held, and the terms over the map are the fixed bytes
pub record GoodRead (m : Content) (fixed : List ℕ) (r : Reading) : Type 0 where
  pub left : 0 < count_left r.links
  pub links : AllByRecursion (GoodLink m) r.links
  pub held : AllByRecursion (IsHeldIn r.links) r.terms
  pub bytes : cut_to r.length (drop r.offset (flat_map (term_bytes m) (map term_of r.terms))) ≡ fixed

-- an open read's number was given, it is good, and the store is sound
pub record IsGoodAt (m : Content) (w : World) (n : ℕ) (r : OpenRead) : Type 0 where
  pub given : n < w.state.next
  pub read : GoodRead m (w.fixed n) r.reader
  pub sound : IsSound w.state.store

abbrev pub GoodAt : Content → World → ℕ → Option OpenRead → Type 0
GoodAt m w n None = Unit {0}
GoodAt m w n (Some r) = IsGoodAt m w n r

abbrev pub Goods : Content → World → Type 0
Goods m w = (n : ℕ) → GoodAt m w n (get w.state.reads n)
