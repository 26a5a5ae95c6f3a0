-- The footer of an object is the one that its lists spell, and a xorb's text ends with it or without it.
use Rattle.std.proofs.Common.{◌≡◌, ℕ, ◌+◌, ◌*◌, ◌<◌, Bool, true, false, List, [], ◌∷◌, ◌++◌, length, map, Some, refl, sym, ap, ◌∙◌, append_assoc, arith}
use Rattle.std.specs.Prelude.{Err}
use Rattle.std.specs.List.{flat_map}
use Rattle.std.proofs.lemmas.List.{append-nil}
use Rattle.xet_bytes.specs.declared.cursor.ReadError.{ReadError}
use Rattle.xet_bytes.specs.declared.cursor.ReadError.TheVariants.{Memory, Malformed}
use Rattle.xet_bytes.specs.Fields.{le32}
use Rattle.xet_bytes.specs.Reading.{Gives, nothing_at}
use Rattle.xet_bytes.proofs.FieldLaws.{IsBytes, IsField, literal_field, pair_field, view_field, found}
use Rattle.xet_xorb.specs.declared.object.XorbObject.TheInside.{Inside}
use Rattle.xet_xorb.specs.declared.object.XorbObjectInfoV1.{XorbObjectInfoV1}
use Rattle.xet_xorb.specs.Values.{Xorb}
use Rattle.xet_xorb.specs.Objects.{xorb_of, IsObject}
use Rattle.xet_types.specs.Names.{chunk_hash}
use Rattle.xet_xorb.specs.ChunkLists.{lengths_of, object_of}
use Rattle.xet_xorb.specs.XorbBytes.{xorb_text, footer_mark, footer_bytes, xorb_bytes, text_of, IsXorbText}
use Rattle.xet_xorb.specs.Steps.{at_chunks_end, BeginsWith, ReadsParts, ReadsWhole}
use Rattle.xet_xorb.specs.Footers.{Fields, passed, footer_at, tail_bytes, ReadsFooter}
use Rattle.xet_xorb.proofs.ChunkText.{BeginsWith-unique, lengths-length}
use Rattle.xet_xorb.proofs.Offsets.{length-steps}
use Rattle.xet_xorb.proofs.FooterText.{footer_parts}

-- ---- the fields of a footer

-- the fields and the length, one after another
abbrev pub fields_text : XorbObjectInfoV1 → ℕ → List ℕ
fields_text info info_length = footer_mark ++ (info.xorb_hash ++ (le32 info.num_chunks ++ (flat_map (λ hash. hash) info.chunk_hashes.items ++ (flat_map le32 info.chunk_boundary_offsets.items ++ (flat_map le32 info.unpacked_chunk_offsets.items ++ le32 info_length)))))

footer_field : (info : XorbObjectInfoV1) (info_length : ℕ) → IsField (footer_at info info_length) (λ _. fields_text info info_length) (λ _. Fields)
footer_field info info_length =
    view_field passed (λ _. (tt, (tt, (tt, (tt, (tt, (tt, tt))))))) _ _ (λ _. Fields) (λ a h. refl) (λ b. refl)
    (pair_field _ _ _ _ _ _ (literal_field footer_mark)
    (pair_field _ _ _ _ _ _ (literal_field info.xorb_hash)
    (pair_field _ _ _ _ _ _ (literal_field (le32 info.num_chunks))
    (pair_field _ _ _ _ _ _ (literal_field (flat_map (λ hash. hash) info.chunk_hashes.items))
    (pair_field _ _ _ _ _ _ (literal_field (flat_map le32 info.chunk_boundary_offsets.items))
    (pair_field _ _ _ _ _ _ (literal_field (flat_map le32 info.unpacked_chunk_offsets.items)) (literal_field (le32 info_length))))))))

regroup : (mark name count hashes bounds ends len : List ℕ) → mark ++ (name ++ (count ++ (hashes ++ (bounds ++ (ends ++ len))))) ≡ (mark ++ (name ++ (count ++ (hashes ++ (bounds ++ ends))))) ++ len
regroup mark name count hashes bounds ends len = simp append_assoc

-- the object's lists spell its footer and the footer's length
footer_is : (o : Inside) (object : Xorb) → IsObject o → xorb_of o ≡ object → fields_text o.info o.info_length ≡ tail_bytes true object
footer_is o object h view =
    let len : o.info_length ≡ 44 + 40 * length object.lengths = omega (arith, h.info_length, length-steps 0 o.info.unpacked_chunk_offsets.items, ap (λ (x : Xorb). length x.lengths) view) in
    regroup footer_mark o.info.xorb_hash (le32 o.info.num_chunks) (flat_map (λ hash. hash) o.info.chunk_hashes.items) (flat_map le32 o.info.chunk_boundary_offsets.items) (flat_map le32 o.info.unpacked_chunk_offsets.items) (le32 o.info_length)
    ∙ ap (λ (t : List ℕ). t ++ le32 o.info_length) (sym (footer_parts o h) ∙ ap footer_bytes view) ∙ ap (λ (n : ℕ). footer_bytes object ++ le32 n) len

some_same : (x y : Unit {0} × List ℕ) → found x ≡ found y → x ≡ y
some_same x y e = cc

-- an object's footer is read, and nothing is left
footer_again : (o : Inside) (object : Xorb) (bytes : List ℕ) → IsObject o → xorb_of o ≡ object → bytes ≡ tail_bytes true object → footer_at o.info o.info_length bytes ≡ Some (tt, [])
footer_again o object bytes h view is =
    ap (footer_at o.info o.info_length) (is ∙ sym (footer_is o object h view) ∙ sym (append-nil (fields_text o.info o.info_length)))
    ∙ (footer_field o.info o.info_length).again tt [] (tt, (tt, (tt, (tt, (tt, (tt, tt))))))

-- bytes that are no footer, and some, stand behind no chunks
refuses : (object : Xorb) (bytes : List ℕ) → 0 < length bytes → (bytes ≡ tail_bytes true object → ⊥) → (has_footer : Bool) → bytes ≡ tail_bytes has_footer object → ⊥
refuses object bytes some other true e = other e
refuses object bytes some other false e = absurd (omega (arith, ap length e, some))

pub footer_stops : (e : ReadError) (o : Inside) (object : Xorb) (bytes left : List ℕ) → 0 < length bytes → IsObject o → xorb_of o ≡ object → Gives {X = Unit {0}} (λ x. x) (Err e) left (footer_at o.info o.info_length bytes) → ReadsFooter bytes object (Err e)
footer_stops Memory o object bytes left some h view none = tt
footer_stops Malformed o object bytes left some h view none =
    refuses object bytes some (λ is. let again : footer_at o.info o.info_length bytes ≡ Some (tt, []) = footer_again o object bytes h view is in absurd cc)

pub end_stops : (e : ReadError) (o : Inside) (object : Xorb) (bytes rest left : List ℕ) → 0 < length bytes → IsObject o → xorb_of o ≡ object → footer_at o.info o.info_length bytes ≡ Some (tt, rest) → Gives {X = Unit {0}} (λ x. x) (Err e) left (nothing_at rest) → ReadsFooter bytes object (Err e)
end_stops Memory o object bytes rest left some h view e none = tt
end_stops Malformed o object bytes rest left some h view e none =
    refuses object bytes some
    (λ is.
    let nothing : rest ≡ [] = ap (λ (x : Unit {0} × List ℕ). x.1) (some_same (tt, rest) (tt, []) (sym e ∙ footer_again o object bytes h view is)) in
    let end : nothing_at rest ≡ Some (tt, []) = ap nothing_at nothing in
    absurd cc)

nothing_is : (bytes : List ℕ) (x : Unit {0} × List ℕ) → nothing_at bytes ≡ Some x → bytes ≡ []
nothing_is [] x e = refl
nothing_is (b ∷ bytes) x e = absurd cc

pub footer_read : (o : Inside) (object : Xorb) (bytes rest left : List ℕ) → IsBytes bytes → IsObject o → xorb_of o ≡ object → footer_at o.info o.info_length bytes ≡ Some (tt, rest) → nothing_at rest ≡ Some (tt, left) → bytes ≡ tail_bytes true object
footer_read o object bytes rest left fits h view e end =
    let parts : bytes ≡ fields_text o.info o.info_length ++ rest = ((footer_field o.info o.info_length).takes bytes (tt, rest) fits e).0.parts in
    parts ∙ ap (λ (t : List ℕ). fields_text o.info o.info_length ++ t) (nothing_is rest (tt, left) end) ∙ append-nil (fields_text o.info o.info_length) ∙ footer_is o object h view

-- ---- what stands behind the chunks

text_parts : (has_footer : Bool) (chunks : List (List ℕ)) → text_of has_footer chunks ≡ xorb_text chunks ++ tail_bytes has_footer (object_of chunks)
unfolding xorb_bytes
text_parts true chunks = ap (λ (n : ℕ). xorb_text chunks ++ (footer_bytes (object_of chunks) ++ le32 (44 + 40 * n))) (sym (lengths-length chunks))
text_parts false chunks = sym (append-nil (xorb_text chunks))

tail_ends : (has_footer : Bool) (xorb : Xorb) → at_chunks_end (tail_bytes has_footer xorb) ≡ true
unfolding footer_bytes
tail_ends true xorb = refl
tail_ends false xorb = refl

-- a xorb's text begins with its chunks
begins_text : (bytes : List ℕ) (chunks : List (List ℕ)) (is : IsXorbText bytes chunks) → BeginsWith bytes chunks (tail_bytes is.has_footer (object_of chunks))
begins_text bytes chunks is = record {
  formed = is.formed;
  text = is.text ∙ text_parts is.has_footer chunks;
  ends = tail_ends is.has_footer (object_of chunks);
}

-- A xorb's bytes spell one list of chunks, with a footer or without one.
pub record IsSame (xs ys : List (List ℕ)) (bytes : List ℕ) (h : IsXorbText bytes xs) (k : IsXorbText bytes ys) : Type 0 where
  pub chunks : xs ≡ ys
  pub footer : h.has_footer ≡ k.has_footer

same_tails : (f g : Bool) (a b : Xorb) → tail_bytes f a ≡ tail_bytes g b → f ≡ g
unfolding footer_bytes
same_tails true true a b e = refl
same_tails true false a b e = absurd (omega (arith, ap length e))
same_tails false true a b e = absurd (omega (arith, ap length e))
same_tails false false a b e = refl

pub IsXorbText-unique : (bytes : List ℕ) (xs ys : List (List ℕ)) (h : IsXorbText bytes xs) (k : IsXorbText bytes ys) → IsSame xs ys bytes h k
IsXorbText-unique bytes xs ys h k =
    let same = BeginsWith-unique bytes xs ys (tail_bytes h.has_footer (object_of xs)) (tail_bytes k.has_footer (object_of ys)) (begins_text bytes xs h) (begins_text bytes ys k) in
    record { chunks = same.chunks; footer = same_tails h.has_footer k.has_footer (object_of xs) (object_of ys) same.rest }

known : List (List ℕ) → List ℕ → Xorb
known hashes lengths = record { hashes = hashes; lengths = lengths }

-- the object of a list's hashes and lengths is the list's
pub known_of : (object : Xorb) (hashes : List (List ℕ)) (lengths : List ℕ) (chunks : List (List ℕ)) → object ≡ record { hashes = hashes; lengths = lengths } → hashes ≡ map chunk_hash chunks → lengths ≡ lengths_of chunks → object ≡ object_of chunks
unfolding known
known_of object hashes lengths chunks is e e' = is ∙ ap (λ (hs : List (List ℕ)). known hs lengths) e ∙ ap (λ (ns : List ℕ). known (map chunk_hash chunks) ns) e'

-- chunks with a right tail are a xorb's text
pub text_is : (bytes : List ℕ) (chunks : List (List ℕ)) (rest : List ℕ) (object : Xorb) (has_footer : Bool) → BeginsWith bytes chunks rest → object ≡ object_of chunks → rest ≡ tail_bytes has_footer object → bytes ≡ text_of has_footer chunks
text_is bytes chunks rest object has_footer h is e = h.text ∙ ap (λ (t : List ℕ). xorb_text chunks ++ t) (e ∙ ap (tail_bytes has_footer) is) ∙ sym (text_parts has_footer chunks)

-- where no footer is read behind chunks, the bytes are no xorb's
pub no_tail : (e : ReadError) (bytes : List ℕ) (chunks : List (List ℕ)) (rest : List ℕ) (object : Xorb) → BeginsWith bytes chunks rest → object ≡ object_of chunks → ReadsFooter rest object (Err e) → ReadsWhole bytes (Err e)
no_tail Memory bytes chunks rest object h is none = tt
no_tail Malformed bytes chunks rest object h is none = λ others are.
    let same = BeginsWith-unique bytes chunks others rest (tail_bytes are.has_footer (object_of others)) h (begins_text bytes others are) in
    none are.has_footer (same.rest ∙ ap (λ (cs : List (List ℕ)). tail_bytes are.has_footer (object_of cs)) (sym same.chunks) ∙ ap (tail_bytes are.has_footer) (sym is))

-- where no chunks are read, the bytes are no xorb's
pub no_parts : (e : ReadError) (bytes : List ℕ) → ReadsParts bytes (Err e) → ReadsWhole bytes (Err e)
no_parts Memory bytes none = tt
no_parts Malformed bytes none = λ others are. none others (tail_bytes are.has_footer (object_of others)) (begins_text bytes others are)
