-- Reading a shard from the front.
use Rattle.std.specs.Prelude.{◌≡◌, ℕ, List, codes, Option, Some, None, Result, Ok, Err}
use Rattle.std.specs.Int.{w32, w64}
use Rattle.xet_bytes.specs.Reading.{Reading, bytes_at, number_at, literal_at, pair_at, view_at, counted_at}
use Rattle.xet_bytes.specs.declared.cursor.ReadError.{ReadError}
use Rattle.xet_bytes.specs.declared.cursor.ReadError.TheVariants.{Memory, Malformed}
use Rattle.xet_shard.specs.declared.listing.Segment.{Segment}
use Rattle.xet_shard.specs.declared.listing.ChunkListing.{ChunkListing}
use Rattle.xet_shard.specs.Values.{Listing, ListedXorb}
use Rattle.xet_shard.specs.Listings.{ShardModel}

-- a hash and four numbers
abbrev pub Words : Type 0
Words = List ℕ × (ℕ × (ℕ × (ℕ × ℕ)))

abbrev pub words_at : Reading Words
words_at = pair_at (bytes_at 32) (pair_at (number_at w32) (pair_at (number_at w32) (pair_at (number_at w32) (number_at w32))))

abbrev pub segment_of : Words → Segment
segment_of p = record { xorb_hash = p.0; xorb_flags = p.1.0; chunk_index_start = p.1.1.0; chunk_index_end = p.1.1.1.0; unpacked_segment_bytes = p.1.1.1.1 }

unfoldable pub segment_at : Reading Segment
segment_at = view_at segment_of words_at

abbrev pub listing_of : List ℕ × List Segment → Listing
listing_of p = record { file_hash = p.0; segments = p.1 }

unfoldable pub listing_at : Reading Listing
listing_at = view_at listing_of (pair_at (bytes_at 32) (counted_at segment_at))

abbrev pub chunk_of : Words → ChunkListing
chunk_of p = record { chunk_hash = p.0; chunk_byte_range_start = p.1.0; unpacked_segment_bytes = p.1.1.0; flags = p.1.1.1.0; spare = p.1.1.1.1 }

unfoldable pub chunk_at : Reading ChunkListing
chunk_at = view_at chunk_of words_at

abbrev pub listed_xorb_of : List ℕ × (ℕ × List ChunkListing) → ListedXorb
listed_xorb_of p = record { xorb_hash = p.0; num_bytes = p.1.0; chunks = p.1.1 }

unfoldable pub listed_xorb_at : Reading ListedXorb
listed_xorb_at = view_at listed_xorb_of (pair_at (bytes_at 32) (pair_at (number_at w32) (counted_at chunk_at)))

abbrev pub shard_of : Unit {0} × (ℕ × (List Listing × List ListedXorb)) → ShardModel
shard_of p = record { expiry = p.1.0; files = p.1.1.0; xorbs = p.1.1.1 }

unfoldable pub shard_at : Reading ShardModel
shard_at = view_at shard_of (pair_at (literal_at (codes "XETSHRD1")) (pair_at (number_at w64) (pair_at (counted_at listing_at) (counted_at listed_xorb_at))))

-- What a reader of all bytes answered is what reading gives, unless memory ran out.
abbrev pub GivesWhole : Result ShardModel ReadError → Option ShardModel → Type 0
GivesWhole (Ok s) read = read ≡ Some s
GivesWhole (Err Memory) read = Unit {0}
GivesWhole (Err Malformed) read = read ≡ None
