-- What a shard lists, as lists.
use Rattle.std.specs.Prelude.{ℕ, List, sum_by}
use Rattle.xet_shard.specs.declared.listing.Segment.{Segment}
use Rattle.xet_shard.specs.declared.listing.ChunkListing.{ChunkListing}

-- a file and its segments, in file order
pub record Listing : Type 0 where
  pub file_hash : List ℕ
  pub segments : List Segment

-- a xorb, the bytes that it is listed with, and its chunks
pub record ListedXorb : Type 0 where
  pub xorb_hash : List ℕ
  pub num_bytes : ℕ
  pub chunks : List ChunkListing

-- the bytes that a segment is listed with
abbrev pub listed_length : Segment → ℕ
listed_length s = s.unpacked_segment_bytes

-- the size of a file: the sum of the listed lengths
abbrev pub size_of : List Segment → ℕ
size_of segments = sum_by listed_length segments
