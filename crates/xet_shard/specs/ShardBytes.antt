-- The one text of a shard.
use Rattle.std.specs.Prelude.{◌≡◌, ℕ, ◌<◌, ◌^◌, List, ◌++◌, length, codes, Result, Ok, Err}
use Rattle.std.specs.List.{flat_map, AllByRecursion}
use Rattle.xet_bytes.specs.Fields.{le32, le64}
use Rattle.xet_types.specs.declared.error.ClientError.{ClientError}
use Rattle.xet_types.specs.declared.error.ClientError.TheVariants.{FormatError, OutOfMemory}
use Rattle.xet_types.specs.declared.error.FormatFault.TheVariants as faults
use Rattle.xet_shard.specs.declared.listing.Segment.{Segment}
use Rattle.xet_shard.specs.declared.listing.ChunkListing.{ChunkListing}
use Rattle.xet_shard.specs.Values.{Listing, ListedXorb}
use Rattle.xet_shard.specs.Listings.{ShardModel}

-- the hash of the xorb, the flags, the range of chunks, and the listed length
abbrev pub segment_bytes : Segment → List ℕ
segment_bytes s =
    s.xorb_hash ++ (le32 s.xorb_flags ++ (le32 s.chunk_index_start ++ (le32 s.chunk_index_end ++ le32 s.unpacked_segment_bytes)))

-- the hash of the file, the count of its segments, and the segments
abbrev pub listing_bytes : Listing → List ℕ
listing_bytes f = f.file_hash ++ (le32 (length f.segments) ++ flat_map segment_bytes f.segments)

-- the hash of the chunk, where it begins, its length, the flags, and the spare word
abbrev pub chunk_bytes : ChunkListing → List ℕ
chunk_bytes c =
    c.chunk_hash ++ (le32 c.chunk_byte_range_start ++ (le32 c.unpacked_segment_bytes ++ (le32 c.flags ++ le32 c.spare)))

-- the hash of the xorb, its listed length, the count of its chunks, and the chunks
abbrev pub listed_xorb_bytes : ListedXorb → List ℕ
listed_xorb_bytes x = x.xorb_hash ++ (le32 x.num_bytes ++ (le32 (length x.chunks) ++ flat_map chunk_bytes x.chunks))

-- the mark, the expiry, the count of the files, the files, the count of the xorbs, and the xorbs
abbrev pub shard_bytes : ShardModel → List ℕ
shard_bytes s =
    codes "XETSHRD1" ++ (le64 s.expiry ++ (le32 (length s.files) ++ (flat_map listing_bytes s.files ++ (le32 (length s.xorbs) ++ flat_map listed_xorb_bytes s.xorbs))))

-- ---- what has a text: hashes of 32 bytes, numbers within four bytes (the expiry within eight), and counts likewise

abbrev pub IsSegment : Segment → Type 0
IsSegment s =
    (length s.xorb_hash ≡ 32) × ((s.xorb_flags < 2 ^ 32) × ((s.chunk_index_start < 2 ^ 32) × ((s.chunk_index_end < 2 ^ 32) × (s.unpacked_segment_bytes < 2 ^ 32))))

abbrev pub IsListing : Listing → Type 0
IsListing f = (length f.file_hash ≡ 32) × ((length f.segments < 2 ^ 32) × AllByRecursion IsSegment f.segments)

abbrev pub IsChunkListing : ChunkListing → Type 0
IsChunkListing c =
    (length c.chunk_hash ≡ 32) × ((c.chunk_byte_range_start < 2 ^ 32) × ((c.unpacked_segment_bytes < 2 ^ 32) × ((c.flags < 2 ^ 32) × (c.spare < 2 ^ 32))))

abbrev pub IsListedXorb : ListedXorb → Type 0
IsListedXorb x =
    (length x.xorb_hash ≡ 32) × ((x.num_bytes < 2 ^ 32) × ((length x.chunks < 2 ^ 32) × AllByRecursion IsChunkListing x.chunks))

pub record IsShard (s : ShardModel) : Type 0 where
  pub expiry : s.expiry < 2 ^ 64
  pub few_files : length s.files < 2 ^ 32
  pub files : AllByRecursion IsListing s.files
  pub few_xorbs : length s.xorbs < 2 ^ 32
  pub xorbs : AllByRecursion IsListedXorb s.xorbs

-- the bytes are the text of the shard
pub record IsReadAs (bytes : List ℕ) (s : ShardModel) : Type 0 where
  pub text : bytes ≡ shard_bytes s
  pub fits : IsShard s

-- the bytes are the text of the shard, and of no other
pub record IsTextOfOne (bytes : List ℕ) (s : ShardModel) : Type 0 where
  pub read : IsReadAs bytes s
  pub alone : (other : ShardModel) → IsReadAs bytes other → other ≡ s

-- ---- reading

-- A shard is read exactly where the bytes are its text, unless memory runs out.
abbrev pub ReadsShard : List ℕ → Result ShardModel ClientError → Type 0
ReadsShard bytes (Ok s) = IsReadAs bytes s
ReadsShard bytes (Err (FormatError faults.Shard)) = (s : ShardModel) → IsReadAs bytes s → ⊥
ReadsShard bytes (Err OutOfMemory) = Unit {0}
ReadsShard bytes (Err e) = ⊥
