-- What a fetch of a link brings.
use Rattle.std.specs.Prelude.{◌≡◌, ℕ, ◌&&◌, nat_lt, nat_le, Bool, true, false, List, [], ◌∷◌, map, length, slice_range, Option, Some, None, Result, Ok, Err, if◌then◌else◌}
use Rattle.std.specs.Global.{Vec}
use Rattle.xet_types.specs.declared.error.Refusal.{Refusal}
use Rattle.xet_types.specs.declared.error.Refusal.TheVariants.{InvalidRange, XORBNotFound}
use Rattle.xet_types.specs.declared.range.Range.{Range}
use Rattle.xet_types.specs.declared.range._F.{_F}
use Rattle.xet_xorb.specs.Lengths.{serialized_length}
use Rattle.xet_xorb.specs.ChunkLists.{lengths_of}
use Rattle.xet_xorb.specs.XorbBytes.{xorb_bytes}
use Rattle.xet_wire.specs.Multipart.{Part, part_of, WritesMultipart, SpellsMultipart}
use Rattle.xet_store.specs.StoreModel.{StoreModel, Chunks, stored}
use Rattle.xet_store.specs.Questions.{of_xorb}

-- the bytes, and their type where they aren't those of one range
pub record Body : Type 0 where
  pub content_type : Option (List ℕ)
  pub bytes : List ℕ

-- the bytes of one range, which are sent without a type
abbrev pub plain : List ℕ → Body
plain bytes = record { content_type = None; bytes = bytes }

-- the type's text; none where there is no type
abbrev pub type_text : Option (List ℕ) → List ℕ
type_text None = []
type_text (Some text) = text

-- the range isn't empty, and all of it is of the bytes of the xorb with its footer
abbrev pub lies_in : Chunks → Range ℕ _F → Bool
lies_in chunks r = nat_lt r.start r.end && nat_le r.end (length (xorb_bytes chunks))

abbrev pub all_lie_in : Chunks → List (Range ℕ _F) → Bool
all_lie_in chunks [] = true
all_lie_in chunks (r ∷ rs) = lies_in chunks r && all_lie_in chunks rs

-- the bytes of a range of a xorb with its footer
abbrev pub bytes_at : Chunks → Range ℕ _F → List ℕ
bytes_at chunks r = slice_range (xorb_bytes chunks) r.start r.end

-- the bytes of a range of a xorb, where it has them
abbrev pub piece_of : Range ℕ _F → Chunks → Result (List ℕ) Refusal
piece_of r chunks = if lies_in chunks r then Ok (bytes_at chunks r) else Err InvalidRange

-- the same of a xorb as it is stored
abbrev pub stored_piece : StoreModel → List ℕ → Range ℕ _F → Result (List ℕ) Refusal
stored_piece m hash r = of_xorb hash (piece_of r) (stored m hash)

-- the part of a body for a range
abbrev pub part_at : Chunks → Range ℕ _F → Part
part_at chunks r = part_of (r, bytes_at chunks r)

-- The body has a part for each range, in order, each of which tells the length of the xorb with its footer. It reads back as these parts.
pub record IsInParts (chunks : Chunks) (rs : List (Range ℕ _F)) (body : Body) : Type 0 where
  pub content_type : List ℕ
  pub typed : body.content_type ≡ Some content_type
  pub written : WritesMultipart (map (part_at chunks) rs) (serialized_length (lengths_of chunks)) content_type body.bytes
  pub spelled : SpellsMultipart content_type body.bytes (map (part_at chunks) rs)

-- one range is sent plain, any other number in parts
abbrev pub IsBodyOf : Chunks → List (Range ℕ _F) → Body → Type 0
IsBodyOf chunks [] body = IsInParts chunks [] body
IsBodyOf chunks (r ∷ []) body = body ≡ plain (bytes_at chunks r)
IsBodyOf chunks (r ∷ (q ∷ rs)) body = IsInParts chunks (r ∷ (q ∷ rs)) body

-- the body of ranges of a xorb, each of which must be some bytes, and all of them the xorb's
abbrev pub Sends : Chunks → List (Range ℕ _F) → Result Body Refusal → Type 0
Sends chunks rs (Ok body) = (all_lie_in chunks rs ≡ true) × IsBodyOf chunks rs body
Sends chunks rs (Err InvalidRange) = all_lie_in chunks rs ≡ false
Sends chunks rs (Err why) = ⊥

abbrev pub SendsOf : List ℕ → List (Range ℕ _F) → Option Chunks → Result Body Refusal → Type 0
SendsOf hash rs None result = result ≡ Err (XORBNotFound hash)
SendsOf hash rs (Some chunks) result = Sends chunks rs result

-- the same of a xorb as it is stored
abbrev pub SendsStored : StoreModel → List ℕ → List (Range ℕ _F) → Result Body Refusal → Type 0
SendsStored m hash rs result = SendsOf hash rs (stored m hash) result

-- ranges with their bytes, of a xorb which has them all
abbrev pub Cuts : List (Range ℕ _F) → Chunks → Result (List (Range ℕ _F × List ℕ)) Refusal → Type 0
Cuts rs chunks (Ok pieces) = (all_lie_in chunks rs ≡ true) × (map part_of pieces ≡ map (part_at chunks) rs)
Cuts rs chunks (Err InvalidRange) = all_lie_in chunks rs ≡ false
Cuts rs chunks (Err why) = ⊥

abbrev pub CutsOf : List ℕ → List (Range ℕ _F) → Option Chunks → Result (List (Range ℕ _F × List ℕ)) Refusal → Type 0
CutsOf hash [] o result = result ≡ Ok []
CutsOf hash (r ∷ rs) None result = result ≡ Err (XORBNotFound hash)
CutsOf hash (r ∷ rs) (Some chunks) result = Cuts (r ∷ rs) chunks result

-- the same of a xorb as it is stored; no ranges have no bytes
abbrev pub CutsStored : StoreModel → List ℕ → List (Range ℕ _F) → Result (List (Range ℕ _F × List ℕ)) Refusal → Type 0
CutsStored m hash rs result = CutsOf hash rs (stored m hash) result

-- a list as the list that it is
abbrev pub shown_cuts : Result (Vec (Range ℕ _F × List ℕ)) Refusal → Result (List (Range ℕ _F × List ℕ)) Refusal
shown_cuts (Ok pieces) = Ok pieces.items
shown_cuts (Err why) = Err why
