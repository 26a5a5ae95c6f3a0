-- What a generated file holds.
use Rattle.std.specs.Prelude.{ℕ, List, [], map}
use Rattle.std.specs.Global.{Vec}
use Rattle.std.specs.FinMap.{entries}
use Rattle.xet_types.specs.Names.{chunk_hash, xorb_name}
use Rattle.xet_xorb.specs.ChunkLists.{joined}
use Rattle.xet_shard.specs.Canonical.{last_entries}
use Rattle.xet_generated.specs.Terms.{Chunks, Term, xorb_of, xorbs_of, term_chunks, file_chunks}
use Rattle.xet_generated.specs.Shards.{generated_name}

-- a term: its xorb, the range of its chunks, these chunks joined, and their hashes
pub record TermModel : Type 0 where
  pub xorb_hash : List ℕ
  pub chunk_start : ℕ
  pub chunk_end : ℕ
  pub content : List ℕ
  pub chunk_hashes : List (List ℕ)

-- a file: its name, its bytes, chunk lists of xorbs in order of hash, and its terms
pub record FileModel : Type 0 where
  pub file_hash : List ℕ
  pub content : List ℕ
  pub xorbs : List (List ℕ × Chunks)
  pub terms : List TermModel

-- a hash, and a list of chunks as the list that it is
abbrev pub chunks_under : (List ℕ × Vec (List ℕ)) → (List ℕ × Chunks)
chunks_under e = (e.0, e.1.items)

abbrev pub content_of : TermModel → List ℕ
content_of t = t.content

abbrev pub xorb_hash_of : TermModel → List ℕ
xorb_hash_of t = t.xorb_hash

abbrev pub chunk_range_of : TermModel → ℕ × ℕ
chunk_range_of t = (t.chunk_start, t.chunk_end)

-- a term of a generated file
abbrev pub term_of : List Term → ℕ → Term → TermModel
term_of terms size t = record {
  xorb_hash = xorb_name (xorb_of terms size t.0);
  chunk_start = t.1.0;
  chunk_end = t.1.1;
  content = joined (term_chunks terms size t);
  chunk_hashes = map chunk_hash (term_chunks terms size t);
}

-- the chunk list of each xorb under its name
unfoldable pub xorbs_by_hash : List Term → ℕ → List (List ℕ × Chunks)
xorbs_by_hash terms size = entries (last_entries xorb_name (xorbs_of terms size))

abbrev pub contents_with : List (List ℕ × Chunks) → List Term → ℕ → FileModel
contents_with xorbs terms size = record {
  file_hash = generated_name terms size;
  content = joined (file_chunks terms size);
  xorbs = xorbs;
  terms = map (term_of terms size) terms;
}

-- what is answered of a file whose xorbs are in a store: no chunk lists
unfoldable pub lazy_contents : List Term → ℕ → FileModel
lazy_contents terms size = contents_with [] terms size

-- what is answered of a file that is uploaded: also the chunk list of each xorb
unfoldable pub full_contents : List Term → ℕ → FileModel
full_contents terms size = contents_with (xorbs_by_hash terms size) terms size
