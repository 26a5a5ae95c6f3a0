-- What is known of a xorb without its bytes.
use Rattle.std.specs.Prelude.{◌≡◌, ℕ, ◌+◌, ◌-◌, ◌*◌, ◌<◌, List, [], ◌∷◌, length, slice_index}
use Rattle.xet_types.specs.Names.{name_of_hashes}
use Rattle.xet_xorb.specs.declared.object.XorbObject.TheInside.{Inside}
use Rattle.xet_xorb.specs.Values.{Xorb}
use Rattle.xet_xorb.specs.Lengths.{AreLengths}

-- the lengths of chunks that end at rising places
abbrev pub steps : ℕ → List ℕ → List ℕ
steps from [] = []
steps from (end ∷ ends) = (end - from) ∷ steps end ends

-- each place is above the one before it
abbrev pub Rises : ℕ → List ℕ → Type 0
Rises from [] = Unit {0}
Rises from (end ∷ ends) = (from < end) × Rises end ends

-- the hashes, and the lengths that the places give at which the joined chunks end
abbrev pub xorb_of : Inside → Xorb
xorb_of o = record { hashes = o.info.chunk_hashes.items; lengths = steps 0 o.info.unpacked_chunk_offsets.items }

-- the lists have one entry a chunk and belong together
pub record IsObject (o : Inside) : Type 0 where
  pub rises : Rises 0 o.info.unpacked_chunk_offsets.items
  pub lengths : AreLengths (steps 0 o.info.unpacked_chunk_offsets.items)
  pub count : o.info.num_chunks ≡ length o.info.unpacked_chunk_offsets.items
  pub hashes : length o.info.chunk_hashes.items ≡ length o.info.unpacked_chunk_offsets.items
  pub bounds : length o.info.chunk_boundary_offsets.items ≡ length o.info.unpacked_chunk_offsets.items
  -- a header of 8 before each chunk
  pub boundary : (k : ℕ) → k < length o.info.unpacked_chunk_offsets.items → slice_index o.info.chunk_boundary_offsets.items k ≡ slice_index o.info.unpacked_chunk_offsets.items k + 8 * (k + 1)
  pub named : o.info.xorb_hash ≡ name_of_hashes o.info.chunk_hashes.items
  pub info_length : o.info_length ≡ 44 + 40 * length o.info.unpacked_chunk_offsets.items
