-- Reading the footer of a xorb whose chunks are known: each field is the one that they give.
use Rattle.std.specs.Prelude.{◌≡◌, ℕ, ◌+◌, ◌*◌, Bool, true, false, List, [], ◌++◌, length, Result, Ok, Err}
use Rattle.std.specs.List.{flat_map}
use Rattle.xet_bytes.specs.Fields.{le32}
use Rattle.xet_bytes.specs.declared.cursor.ReadError.{ReadError}
use Rattle.xet_bytes.specs.declared.cursor.ReadError.TheVariants.{Memory, Malformed}
use Rattle.xet_bytes.specs.Reading.{Reading, literal_at, pair_at, view_at}
use Rattle.xet_xorb.specs.declared.object.XorbObjectInfoV1.{XorbObjectInfoV1}
use Rattle.xet_xorb.specs.Values.{Xorb}
use Rattle.xet_xorb.specs.XorbBytes.{footer_mark, footer_bytes}

-- the fields of a footer, and its length
abbrev pub Fields : Type 0
Fields = Unit {0} × (Unit {0} × (Unit {0} × (Unit {0} × (Unit {0} × (Unit {0} × Unit {0})))))

abbrev pub passed : Fields → Unit {0}
passed fields = tt

-- a footer of these lists, field by field, and then this length
abbrev pub footer_at : XorbObjectInfoV1 → ℕ → Reading (Unit {0})
footer_at info info_length =
    view_at passed
    (pair_at (literal_at footer_mark)
    (pair_at (literal_at info.xorb_hash)
    (pair_at (literal_at (le32 info.num_chunks))
    (pair_at (literal_at (flat_map (λ hash. hash) info.chunk_hashes.items))
    (pair_at (literal_at (flat_map le32 info.chunk_boundary_offsets.items))
    (pair_at (literal_at (flat_map le32 info.unpacked_chunk_offsets.items)) (literal_at (le32 info_length))))))))

-- what stands behind the chunks of this xorb: its footer and the footer's length, or nothing
abbrev pub tail_bytes : Bool → Xorb → List ℕ
tail_bytes true xorb = footer_bytes xorb ++ le32 (44 + 40 * length xorb.lengths)
tail_bytes false xorb = []

abbrev pub ReadsFooter : List ℕ → Xorb → Result Bool ReadError → Type 0
ReadsFooter bytes xorb (Ok has_footer) = bytes ≡ tail_bytes has_footer xorb
ReadsFooter bytes xorb (Err Memory) = Unit {0}
ReadsFooter bytes xorb (Err Malformed) = (has_footer : Bool) → bytes ≡ tail_bytes has_footer xorb → ⊥
