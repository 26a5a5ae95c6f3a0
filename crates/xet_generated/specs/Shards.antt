-- The shard of a generated file.
use Rattle.std.specs.Prelude.{ℕ, ◌+◌, List, [], ◌∷◌, length, map, replicate}
use Rattle.xet_types.specs.Names.{chunk_hash, xorb_name, file_name}
use Rattle.xet_xorb.specs.ChunkLists.{joined}
use Rattle.xet_xorb.specs.Generated.{hash_and_size}
use Rattle.xet_shard.specs.declared.listing.Segment.{Segment}
use Rattle.xet_shard.specs.declared.listing.ChunkListing.{ChunkListing}
use Rattle.xet_shard.specs.Values.{Listing, ListedXorb}
use Rattle.xet_shard.specs.Listings.{ShardModel, shard_with}
use Rattle.xet_generated.specs.Terms.{Chunks, Term, xorb_of, xorbs_of, term_chunks, file_chunks}

-- the name of a file of these chunks, whose salt is 32 zero bytes
abbrev pub name_of_chunks : Chunks → List ℕ
name_of_chunks chunks = file_name (map hash_and_size chunks) (replicate 32 0)

-- the name of the file
unfoldable pub generated_name : List Term → ℕ → List ℕ
generated_name terms size = name_of_chunks (file_chunks terms size)

-- a term as a segment: no flags, and the length of its chunks together
abbrev pub term_segment : List Term → ℕ → Term → Segment
term_segment terms size t = record {
  xorb_hash = xorb_name (xorb_of terms size t.0);
  xorb_flags = 0;
  chunk_index_start = t.1.0;
  chunk_index_end = t.1.1;
  unpacked_segment_bytes = length (joined (term_chunks terms size t));
}

-- the file: its terms as segments, in their order
unfoldable pub generated_listing : List Term → ℕ → Listing
generated_listing terms size = record { file_hash = generated_name terms size; segments = map (term_segment terms size) terms }

-- a chunk that begins at a place of the joined chunks
abbrev pub listed_chunk : ℕ → List ℕ → ChunkListing
listed_chunk start chunk = record { chunk_hash = chunk_hash chunk; chunk_byte_range_start = start; unpacked_segment_bytes = length chunk; flags = 0; spare = 0 }

-- chunks, the first of which begins at a place, and each later one where the one before it ends
abbrev pub listed_chunks : ℕ → Chunks → List ChunkListing
listed_chunks start [] = []
listed_chunks start (c ∷ cs) = listed_chunk start c ∷ listed_chunks (start + length c) cs

-- a xorb with all its chunks, and their length together
abbrev pub listed_xorb : Chunks → ListedXorb
listed_xorb chunks = record { xorb_hash = xorb_name chunks; num_bytes = length (joined chunks); chunks = listed_chunks 0 chunks }

-- the file and the xorb of each seed; accepted and uploaded in canonical form, so that two seeds of one xorb list it once
unfoldable pub generated_shard : List Term → ℕ → ShardModel
generated_shard terms size = shard_with 0 (generated_listing terms size ∷ []) (map listed_xorb (xorbs_of terms size))
