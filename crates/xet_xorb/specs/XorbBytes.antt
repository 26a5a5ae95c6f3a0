-- Xorb bytes.
--
-- A xorb is its chunks, one after another, each behind a header of 8 bytes:
--
--     version 0                 1 byte
--     stored length             3 bytes
--     scheme 0 (uncompressed)   1 byte
--     plain length              3 bytes, the same
--
-- It may be followed by a footer and the footer's length in 4 bytes. A chunk's header begins with 0 and a footer with X, so one byte
-- tells them apart. Of n chunks the footer is:
--
--     XETPORT1                  8 bytes
--     the xorb's name           32 bytes
--     n                         4 bytes
--     the chunks' hashes        32 bytes each
--     where each chunk ends in the xorb's bytes       4 bytes each
--     where each chunk ends in the joined chunks      4 bytes each
--
-- Numbers have their low byte first.
use Rattle.std.specs.Prelude.{◌≡◌, ℕ, ◌+◌, ◌*◌, ◌<◌, List, [], ◌∷◌, ◌++◌, length, map, All, Bool, true, false, Result, Ok, Err}
use Rattle.std.specs.List.{flat_map}
use Rattle.std.specs.Global.{Vec}
use Rattle.xet_types.specs.Names.{name_of_hashes}
use Rattle.xet_types.specs.declared.error.ClientError.{ClientError}
use Rattle.xet_types.specs.declared.error.ClientError.TheVariants.{FormatError, OutOfMemory}
use Rattle.xet_types.specs.declared.error.FormatFault.TheVariants as faults
use Rattle.xet_bytes.specs.Fields.{le24, le32}
use Rattle.xet_xorb.specs.declared.read.ReadXorb.{ReadXorb}
use Rattle.xet_xorb.specs.Values.{Xorb}
use Rattle.xet_xorb.specs.ChunkLists.{IsChunk, IsWellFormed, object_of}

-- the header of a chunk of this length
abbrev pub header_bytes : ℕ → List ℕ
header_bytes n = (0 ∷ []) ++ (le24 n ++ ((0 ∷ []) ++ le24 n))

-- a chunk behind its header
abbrev pub chunk_bytes : List ℕ → List ℕ
chunk_bytes chunk = header_bytes (length chunk) ++ chunk

-- the text of a xorb without its footer
abbrev pub xorb_text : List (List ℕ) → List ℕ
xorb_text chunks = flat_map chunk_bytes chunks

-- the sums of a number and the first one, the first two, .. of a list
abbrev pub running_sums : ℕ → List ℕ → List ℕ
running_sums from [] = []
running_sums from (n ∷ ns) = (from + n) ∷ running_sums (from + n) ns

-- XETPORT1
abbrev pub footer_mark : List ℕ
footer_mark = 88 ∷ 69 ∷ 84 ∷ 80 ∷ 79 ∷ 82 ∷ 84 ∷ 49 ∷ []

-- where each chunk ends in the xorb's bytes, with a header of 8 before each
unfoldable pub boundary_bytes : List ℕ → List ℕ
boundary_bytes lengths = flat_map le32 (running_sums 0 (map (λ n. 8 + n) lengths))

-- where each chunk ends in the joined chunks
unfoldable pub unpacked_bytes : List ℕ → List ℕ
unpacked_bytes lengths = flat_map le32 (running_sums 0 lengths)

-- the footer
unfoldable pub footer_bytes : Xorb → List ℕ
footer_bytes xorb = footer_mark ++ (name_of_hashes xorb.hashes ++ (le32 (length xorb.lengths) ++ (flat_map (λ hash. hash) xorb.hashes ++ (boundary_bytes xorb.lengths ++ unpacked_bytes xorb.lengths))))

-- the text of a xorb with its footer and the footer's length
unfoldable pub xorb_bytes : List (List ℕ) → List ℕ
xorb_bytes chunks = xorb_text chunks ++ (footer_bytes (object_of chunks) ++ le32 (44 + 40 * length chunks))

-- the text of a xorb, with its footer or without it
abbrev pub text_of : Bool → List (List ℕ) → List ℕ
text_of true chunks = xorb_bytes chunks
text_of false chunks = xorb_text chunks

-- the bytes are the text of a well-formed list, with its footer or without it
pub record IsXorbText (bytes : List ℕ) (chunks : List (List ℕ)) : Type 0 where
  pub has_footer : Bool
  pub formed : IsWellFormed chunks
  pub text : bytes ≡ text_of has_footer chunks

-- what was read of a xorb's bytes: its chunks, what is known of it without them, and whether it has a footer
pub record IsReadOf (bytes : List ℕ) (read : ReadXorb) : Type 0 where
  pub chunks : IsXorbText bytes read.chunks.items
  pub object : read.object ≡ object_of read.chunks.items
  pub footer : read.has_footer ≡ chunks.has_footer

-- A xorb is read exactly where the bytes are the text of a well-formed list, with its footer or without it, unless memory runs out.
abbrev pub ReadsXorb : List ℕ → Result ReadXorb ClientError → Type 0
ReadsXorb bytes (Ok read) = IsReadOf bytes read
ReadsXorb bytes (Err OutOfMemory) = Unit {0}
ReadsXorb bytes (Err (FormatError faults.Xorb)) = (chunks : List (List ℕ)) → IsXorbText bytes chunks → ⊥
ReadsXorb bytes (Err e) = ⊥

-- The text of a well-formed list is written, with its footer, unless memory runs out; no other list is.
abbrev pub WritesXorb : List (List ℕ) → Result (List ℕ) ClientError → Type 0
WritesXorb chunks (Ok bytes) = IsWellFormed chunks × (bytes ≡ xorb_bytes chunks)
WritesXorb chunks (Err OutOfMemory) = Unit {0}
WritesXorb chunks (Err (FormatError faults.Xorb)) = IsWellFormed chunks → ⊥
WritesXorb chunks (Err e) = ⊥

-- the bytes are these chunks, each behind its header, and nothing else
pub record AreChunksOf (bytes : List ℕ) (chunks : List (List ℕ)) : Type 0 where
  pub each : All IsChunk chunks
  pub text : bytes ≡ xorb_text chunks

-- the bytes are one whole chunk or more, each behind its header, and nothing else
pub record AreWholeChunks (bytes : List ℕ) (chunks : List (List ℕ)) : Type 0 where
  pub spelled : AreChunksOf bytes chunks
  pub some : 0 < length chunks

-- Chunks are read exactly where the bytes are such, unless memory runs out.
abbrev pub ReadsWholeChunks : List ℕ → Result (Vec (List ℕ)) ClientError → Type 0
ReadsWholeChunks bytes (Ok chunks) = AreWholeChunks bytes chunks.items
ReadsWholeChunks bytes (Err OutOfMemory) = Unit {0}
ReadsWholeChunks bytes (Err (FormatError faults.Xorb)) = (chunks : List (List ℕ)) → AreWholeChunks bytes chunks → ⊥
ReadsWholeChunks bytes (Err e) = ⊥
