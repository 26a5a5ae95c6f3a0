-- Chunks whose bytes a generator makes from a seed.
use Rattle.std.specs.Prelude.{◌≡◌, ℕ, zero, suc, ◌+◌, nat_le, List, [], ◌∷◌, ◌++◌, length, map, slice_range, Option, Some, None, Result, Ok, Err}
use Rattle.rand_core.specs.Stream.{Stream, fill_bytes, next_u64}
use Rattle.rand_core.specs.Steps.{stream_of, steps_u64_high}
use Rattle.rand_xoshiro.specs.SplitMix64.{splitmix_seed}
use Rattle.rand_xoshiro.specs.Xoshiro256.{plus_plus, of_seed}
use Rattle.xet_types.specs.Names.{chunk_hash}
use Rattle.xet_types.specs.declared.error.ClientError.{ClientError}
use Rattle.xet_types.specs.declared.error.ClientError.TheVariants.{InvalidArguments, OutOfMemory}
use Rattle.xet_xorb.specs.declared.generate.RandomChunkInfo.{RandomChunkInfo}
use Rattle.xet_xorb.specs.declared.random.RandomXorb.TheInside.{Inside}
use Rattle.xet_xorb.specs.Values.{Xorb}
use Rattle.xet_xorb.specs.ChunkLists.{IsWellFormed, object_of, joined}
use Rattle.xet_xorb.specs.XorbBytes.{chunk_bytes, xorb_text, xorb_bytes}
use Rattle.xet_xorb.specs.Footers.{tail_bytes}
use Rattle.xet_xorb.specs.Contents.{IsRangeOf}

-- ---- the generator

-- all that Xoshiro256++ answers from the state that SplitMix64 makes of a seed
abbrev pub stream_of_seed : ℕ → Stream
stream_of_seed seed = stream_of (steps_u64_high plus_plus) (of_seed (splitmix_seed 32 seed))

-- the first numbers of 64 bits that a stream answers
unfoldable pub words : ℕ → Stream → List ℕ
words zero s = []
words (suc n) s = (next_u64 s).0 ∷ words n (next_u64 s).1

-- ---- chunks

-- the bytes of a chunk: those with which the generator of the seed fills so many
unfoldable pub generated : ℕ → ℕ → List ℕ
generated seed size = (fill_bytes size (stream_of_seed seed)).0

-- the chunks of these seeds and lengths
abbrev pub generated_chunks : List (ℕ × ℕ) → List (List ℕ)
generated_chunks chunk_specs = map (λ s. generated s.0 s.1) chunk_specs

-- the seeds of the chunks of a xorb of one seed: the first numbers of the seed's generator
abbrev pub chunk_seeds : ℕ → ℕ → List ℕ
chunk_seeds seed count = words count (stream_of_seed seed)

-- so many chunks of one length, each of a seed of its own that the one seed gives
abbrev pub seeded_chunks : ℕ → ℕ → ℕ → List (List ℕ)
seeded_chunks seed count size = map (λ s. generated s size) (chunk_seeds seed count)

-- the chunks' seeds and lengths, where all have one length
abbrev pub seeded_specs : ℕ → List ℕ → List (ℕ × ℕ)
seeded_specs size seeds = map (λ s. (s, size)) seeds

-- ---- what is known of a chunk

-- what is known of a chunk of this seed and length
abbrev pub info_of : ℕ → ℕ → RandomChunkInfo
info_of seed size = record { seed = seed; size = size; hash = chunk_hash (generated seed size) }

abbrev pub infos_of : List (ℕ × ℕ) → List RandomChunkInfo
infos_of chunk_specs = map (λ s. info_of s.0 s.1) chunk_specs

-- the chunk of which this is known
abbrev pub chunk_of_info : RandomChunkInfo → List ℕ
chunk_of_info info = generated info.seed info.size

-- that chunk behind its header
abbrev pub packed_of_info : RandomChunkInfo → List ℕ
packed_of_info info = chunk_bytes (chunk_of_info info)

abbrev pub hash_and_size_of : RandomChunkInfo → List ℕ × ℕ
hash_and_size_of info = (info.hash, info.size)

-- ---- a generated xorb

-- its chunks
abbrev pub chunks_of : Inside → List (List ℕ)
chunks_of x = map chunk_of_info x.chunks.items

-- the chunks are those of a xorb, their hashes are at hand, and so is what is known of the xorb
pub record IsRandom (x : Inside) : Type 0 where
  pub formed : IsWellFormed (chunks_of x)
  pub hashes : map (λ info. info.hash) x.chunks.items ≡ map chunk_hash (chunks_of x)
  pub object : x.object ≡ object_of (chunks_of x)

-- A xorb of these chunks is made exactly where they are those of a xorb, unless memory runs out.
abbrev pub Generates : List (List ℕ) → Result (List (List ℕ)) ClientError → Type 0
Generates chunks (Ok xorb) = IsWellFormed chunks × (xorb ≡ chunks)
Generates chunks (Err OutOfMemory) = Unit {0}
Generates chunks (Err InvalidArguments) = IsWellFormed chunks → ⊥
Generates chunks (Err e) = ⊥

-- what is known of the xorb of these chunks, and its bytes with the footer
pub record IsSerialized (chunks : List (List ℕ)) (made : Xorb × List ℕ) : Type 0 where
  pub formed : IsWellFormed chunks
  pub object : made.0 ≡ object_of chunks
  pub text : made.1 ≡ xorb_bytes chunks

-- The bytes of the xorb of these chunks are made exactly where they are those of a xorb, unless memory runs out.
abbrev pub GeneratesBytes : List (List ℕ) → Result (Xorb × List ℕ) ClientError → Type 0
GeneratesBytes chunks (Ok made) = IsSerialized chunks made
GeneratesBytes chunks (Err OutOfMemory) = Unit {0}
GeneratesBytes chunks (Err InvalidArguments) = IsWellFormed chunks → ⊥
GeneratesBytes chunks (Err e) = ⊥

-- a chunk was added to bytes behind its header, and this is its hash
pub record PutsHashed (before chunk after given : List ℕ) : Type 0 where
  pub text : after ≡ before ++ chunk_bytes chunk
  pub hash : given ≡ chunk_hash chunk

-- chunks were added to bytes, each behind its header, and their hashes to hashes
pub record PutsAllHashed (before : List ℕ) (known : List (List ℕ)) (chunks : List (List ℕ)) (after : List ℕ) (all : List (List ℕ)) : Type 0 where
  pub text : after ≡ before ++ xorb_text chunks
  pub hashes : all ≡ known ++ map chunk_hash chunks

-- the chunks from one to another, each behind its header, and the footer where there is no chunk of the last number
abbrev pub met_bytes : List (List ℕ) → ℕ → ℕ → List ℕ
met_bytes chunks first last = xorb_text (slice_range chunks first (last + 1)) ++ tail_bytes (nat_le (length chunks) last) (object_of chunks)

-- the hash and the length of a chunk
abbrev pub hash_and_size : List ℕ → List ℕ × ℕ
hash_and_size chunk = (chunk_hash chunk, length chunk)

-- The joined chunks of a range, or nothing where it is empty, reversed or ends past the last chunk.
abbrev pub IsRangeData : List (List ℕ) → ℕ → ℕ → Option (List ℕ) → Type 0
IsRangeData chunks start end (Some bytes) = IsRangeOf (length chunks) start end × (bytes ≡ joined (slice_range chunks start end))
IsRangeData chunks start end None = IsRangeOf (length chunks) start end → ⊥
