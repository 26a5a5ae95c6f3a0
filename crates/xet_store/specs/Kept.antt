-- What the parts of the store in memory keep.
use Rattle.std.specs.Prelude.{◌≡◌, ℕ, ◌+◌, List, [], ◌∷◌, take, drop, Option}
use denote.Ref.{Bor}
use Rattle.std.specs.Option.{option_map, option_copied}
use Rattle.std.specs.FinMap.{FinMap, get}
use Rattle.xet_types.specs.Names.{hash_cmp}
use Rattle.xet_types.specs.declared.range.Range.{Range}
use Rattle.xet_types.specs.declared.range._F.{_F}
use Rattle.xet_xorb.specs.Values.{Xorb}
use Rattle.xet_xorb.specs.ChunkLists.{IsWellFormed, object_of}
use Rattle.xet_xorb.specs.XorbBytes.{xorb_bytes}
use Rattle.xet_shard.specs.declared.listing.Segment.{Segment}
use Rattle.xet_shard.specs.Values.{Listing}
use Rattle.xet_plan.specs.Places.{Interval, interval, Known}
use Rattle.xet_store.specs.StoreModel.{Chunks}
use Rattle.xet_store.specs.Questions.{listed_as}

-- the chunks of a text in which each stands behind a header of 8 bytes, by their lengths
abbrev pub chunks_in : List ℕ → List ℕ → Chunks
chunks_in text [] = []
chunks_in text (n ∷ ns) = take n (drop 8 text) ∷ chunks_in (drop (8 + n) text) ns

-- the bytes are the text of a well-formed chunk list with its footer, and what is known of it is the list's
pub record IsKeptXorb (bytes : List ℕ) (known : Xorb) : Type 0 where
  pub formed : IsWellFormed (chunks_in bytes known.lengths)
  pub object : known ≡ object_of (chunks_in bytes known.lengths)
  pub text : bytes ≡ xorb_bytes (chunks_in bytes known.lengths)

-- what is known of the xorbs without their bytes
abbrev pub known_in : FinMap hash_cmp Chunks → Known
known_in m hash = option_map object_of (get m hash)

-- the file's listing that was found has these segments, where there are some
abbrev pub IsListed : List ℕ → Option (List Segment) → Option (Bor Listing) → Type 0
IsListed file segments result = option_copied result ≡ option_map (listed_as file) segments

abbrev pub range_interval : Range ℕ _F → Interval
range_interval r = interval r.start r.end
