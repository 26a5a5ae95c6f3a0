-- A shard that is read is the one that was written, and what was written is read again.
use Rattle.std.proofs.Common.{◌≡◌, ℕ, ◌<◌, ◌^◌, List, length, Some, refl, sym, ◌∙◌}
use Rattle.std.specs.Prelude.{codes}
use Rattle.std.specs.List.{AllByRecursion}
use Rattle.xet_bytes.specs.Fields.{le32}
use Rattle.xet_bytes.specs.Reading.{whole_of}
use Rattle.xet_bytes.proofs.FieldLaws.{IsBytes, IsField, some_is, bytes_field, le32_field, le64_field, literal_field, pair_field, view_field, fits_field, counted_field, whole_takes, whole_again}
use Rattle.xet_shard.specs.declared.listing.Segment.{Segment}
use Rattle.xet_shard.specs.declared.listing.ChunkListing.{ChunkListing}
use Rattle.xet_shard.specs.Values.{Listing, ListedXorb}
use Rattle.xet_shard.specs.Listings.{ShardModel}
use Rattle.xet_shard.specs.ShardBytes.{segment_bytes, listing_bytes, chunk_bytes, listed_xorb_bytes, shard_bytes, IsSegment, IsListing, IsChunkListing, IsListedXorb, IsShard, IsReadAs, IsTextOfOne}
use Rattle.xet_shard.specs.ShardReading.{segment_of, segment_at, listing_of, listing_at, chunk_of, chunk_at, listed_xorb_of, listed_xorb_at, shard_of, shard_at}

pub segment_field : IsField segment_at segment_bytes IsSegment
unfolding segment_at
segment_field =
    view_field segment_of (λ (s : Segment). (s.xorb_hash, (s.xorb_flags, (s.chunk_index_start, (s.chunk_index_end, s.unpacked_segment_bytes))))) _ _ _ (λ _ _. refl) (λ _. refl)
    (pair_field _ _ _ _ _ _ (bytes_field 32) (pair_field _ _ _ _ _ _ le32_field (pair_field _ _ _ _ _ _ le32_field (pair_field _ _ _ _ _ _ le32_field le32_field))))

pub listing_field : IsField listing_at listing_bytes IsListing
unfolding listing_at
listing_field =
    view_field listing_of (λ (f : Listing). (f.file_hash, f.segments)) _ _ _ (λ _ _. refl) (λ _. refl)
    (pair_field _ _ _ _ _ _ (bytes_field 32) (counted_field segment_at segment_bytes IsSegment segment_field))

pub chunk_field : IsField chunk_at chunk_bytes IsChunkListing
unfolding chunk_at
chunk_field =
    view_field chunk_of (λ (c : ChunkListing). (c.chunk_hash, (c.chunk_byte_range_start, (c.unpacked_segment_bytes, (c.flags, c.spare))))) _ _ _ (λ _ _. refl) (λ _. refl)
    (pair_field _ _ _ _ _ _ (bytes_field 32) (pair_field _ _ _ _ _ _ le32_field (pair_field _ _ _ _ _ _ le32_field (pair_field _ _ _ _ _ _ le32_field le32_field))))

pub listed_xorb_field : IsField listed_xorb_at listed_xorb_bytes IsListedXorb
unfolding listed_xorb_at
listed_xorb_field =
    view_field listed_xorb_of (λ (x : ListedXorb). (x.xorb_hash, (x.num_bytes, x.chunks))) _ _ _ (λ _ _. refl) (λ _. refl)
    (pair_field _ _ _ _ _ _ (bytes_field 32) (pair_field _ _ _ _ _ _ le32_field (counted_field chunk_at chunk_bytes IsChunkListing chunk_field)))

-- a shard as its fields
abbrev fields_of : ShardModel → Unit {0} × (ℕ × (List Listing × List ListedXorb))
fields_of s = (tt, (s.expiry, (s.files, s.xorbs)))

-- the same condition, part by part
abbrev HasFields : ShardModel → Type 0
HasFields s =
    Unit {0} × ((s.expiry < 2 ^ 64) × (((length s.files < 2 ^ 32) × AllByRecursion IsListing s.files) × ((length s.xorbs < 2 ^ 32) × AllByRecursion IsListedXorb s.xorbs)))

parts_field : IsField shard_at shard_bytes HasFields
unfolding shard_at le32
parts_field =
    view_field shard_of fields_of _ _ _ (λ _ _. refl) (λ _. refl)
    (pair_field _ _ _ _ _ _ (literal_field (codes "XETSHRD1")) (pair_field _ _ _ _ _ _ le64_field (pair_field _ _ _ _ _ _ (counted_field listing_at listing_bytes IsListing listing_field) (counted_field listed_xorb_at listed_xorb_bytes IsListedXorb listed_xorb_field))))

pub shard_field : IsField shard_at shard_bytes IsShard
shard_field =
    fits_field shard_at shard_bytes HasFields IsShard
    (λ s h. record { expiry = h.1.0; few_files = h.1.1.0.0; files = h.1.1.0.1; few_xorbs = h.1.1.1.0; xorbs = h.1.1.1.1 })
    (λ s h. (tt, (h.expiry, ((h.few_files, h.files), (h.few_xorbs, h.xorbs)))))
    parts_field

-- the same, all of the bytes
pub text_from_read : (bytes : List ℕ) (s : ShardModel) → IsBytes bytes → whole_of shard_at bytes ≡ Some s → IsReadAs bytes s
text_from_read bytes s fits e =
    let h = whole_takes shard_at shard_bytes IsShard shard_field bytes s fits e in
    record { text = h.0; fits = h.1 }

pub read_from_text : (bytes : List ℕ) (s : ShardModel) → IsReadAs bytes s → whole_of shard_at bytes ≡ Some s
read_from_text bytes s h = rw h.text (whole_again shard_at shard_bytes IsShard shard_field s h.fits)

-- what is written is read back, and only so
pub read_back : (bytes : List ℕ) (s : ShardModel) → bytes ≡ shard_bytes s → IsShard s → IsTextOfOne bytes s
read_back bytes s text fits =
    let read : IsReadAs bytes s = record { text = text; fits = fits } in
    record {
      read = read;
      alone = λ other g. some_is other s (sym (read_from_text bytes other g) ∙ read_from_text bytes s read);
    }
