-- How a generated file is put together.
use Rattle.std.specs.Prelude.{◌≡◌, ℕ, ◌^◌, ◌<◌, ◌≤◌, List, [], ◌∷◌, length, map, slice_range, Result, Ok, Err}
use Rattle.std.specs.List.{flat_map}
use Rattle.std.specs.Option.{unwrap_or}
use Rattle.std.specs.Ordering.{nat_cmp}
use Rattle.std.specs.FinMap.{entries}
use Rattle.std.specs.Map.{lookup}
use Rattle.std.specs.BTreeMap.{is_at}
use Rattle.xet_types.specs.Names.{chunk_hash, xorb_name}
use Rattle.xet_types.specs.declared.error.ClientError.{ClientError}
use Rattle.xet_types.specs.declared.error.ClientError.TheVariants.{InvalidArguments, OutOfMemory}
use Rattle.xet_xorb.specs.ChunkLists.{IsWellFormed, object_of, joined}
use Rattle.xet_xorb.specs.XorbBytes.{xorb_bytes}
use Rattle.xet_xorb.specs.Generated.{seeded_chunks}
use Rattle.xet_shard.specs.declared.listing.Segment.{Segment}
use Rattle.xet_shard.specs.Values.{Listing}
use Rattle.xet_shard.specs.Canonical.{last_entries}
use Rattle.xet_shard.specs.Listings.{ShardModel, shard_with}
use Rattle.xet_generated.specs.declared.xorb.GeneratedXorb.TheInside.{Inside}
use Rattle.xet_generated.specs.Terms.{Chunks, Term, xorbs_of, CanGenerate}
use Rattle.xet_generated.specs.Shards.{name_of_chunks, generated_listing, listed_xorb}
use Rattle.xet_generated.specs.Contents.{TermModel, FileModel, lazy_contents}

-- ---- a xorb

-- the chunks are those of a xorb, and the bytes and what is known without them are those of the chunks
pub record IsGenerated (x : Inside) : Type 0 where
  pub formed : IsWellFormed x.chunks.items
  pub text : x.text ≡ xorb_bytes x.chunks.items
  pub object : x.object ≡ object_of x.chunks.items

-- ---- terms among xorbs

-- the xorb of a seed
abbrev pub chunks_at : List (ℕ × Chunks) → ℕ → Chunks
chunks_at xorbs seed = unwrap_or (lookup (is_at (nat_cmp seed)) xorbs) []

-- the chunks of a term
abbrev pub cut_of : List (ℕ × Chunks) → Term → Chunks
cut_of xorbs t = slice_range (chunks_at xorbs t.0) t.1.0 t.1.1

-- the term has a chunk, all its chunks are there, and their numbers are of 32 bits
pub record IsCut (xorbs : List (ℕ × Chunks)) (t : Term) : Type 0 where
  pub some : t.1.0 < t.1.1
  pub within : t.1.1 ≤ length (chunks_at xorbs t.0)
  pub small : t.1.1 < 2 ^ 32

abbrev pub segment_of : List (ℕ × Chunks) → Term → Segment
segment_of xorbs t = record {
  xorb_hash = xorb_name (chunks_at xorbs t.0);
  xorb_flags = 0;
  chunk_index_start = t.1.0;
  chunk_index_end = t.1.1;
  unpacked_segment_bytes = length (joined (cut_of xorbs t));
}

abbrev pub reference_of : List (ℕ × Chunks) → Term → TermModel
reference_of xorbs t = record {
  xorb_hash = xorb_name (chunks_at xorbs t.0);
  chunk_start = t.1.0;
  chunk_end = t.1.1;
  content = joined (cut_of xorbs t);
  chunk_hashes = map chunk_hash (cut_of xorbs t);
}

-- the chunks of each seed's xorb
abbrev pub seeded_under : ℕ → (ℕ × ℕ) → ℕ × Chunks
seeded_under size e = (e.0, seeded_chunks e.0 e.1 size)

-- ---- a file

-- the xorbs in order of seed, the file's listing, and what it holds
pub record MadeFile : Type 0 where
  pub xorbs : List Chunks
  pub listing : Listing
  pub contents : FileModel

unfoldable pub made_file : List Term → ℕ → MadeFile
made_file terms size = record { xorbs = xorbs_of terms size; listing = generated_listing terms size; contents = lazy_contents terms size }

-- A file is made exactly where its terms are those of one, unless memory runs out.
abbrev pub MakesFile : List Term → ℕ → Result MadeFile ClientError → Type 0
MakesFile terms size (Ok file) = CanGenerate terms size × (file ≡ made_file terms size)
MakesFile terms size (Err OutOfMemory) = Unit {0}
MakesFile terms size (Err InvalidArguments) = CanGenerate terms size → ⊥
MakesFile terms size (Err e) = ⊥

-- the shard of a file that was made
abbrev pub shard_of : MadeFile → ShardModel
shard_of f = shard_with 0 (f.listing ∷ []) (map listed_xorb f.xorbs)

-- a file of these terms among xorbs of seeds
abbrev pub file_among : List (ℕ × Chunks) → List Term → MadeFile
file_among xorbs terms =
    let name = name_of_chunks (flat_map (cut_of xorbs) terms) in
    record {
      xorbs = map (λ e. e.1) xorbs;
      listing = record { file_hash = name; segments = map (segment_of xorbs) terms };
      contents = record { file_hash = name; content = flat_map (λ t. joined (cut_of xorbs t)) terms; xorbs = []; terms = map (reference_of xorbs) terms };
    }

-- what it holds, with the chunk list of each xorb under its name
abbrev pub full_contents_of : MadeFile → FileModel
full_contents_of f = record f.contents { xorbs = entries (last_entries xorb_name f.xorbs) }
