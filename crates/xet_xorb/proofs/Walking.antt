-- The chunks that bytes begin with, where these are whole chunks.
use Rattle.std.proofs.Common.{◌≡◌, ℕ, Bool, true, false, not, eqb, zero, suc, ◌+◌, ◌<◌, ◌≤◌, List, [], ◌∷◌, ◌++◌, length, take, drop, All, Some, refl, sym, ap, subst, ◌∙◌, append_assoc, arith}
use Rattle.std.specs.Prelude.{Err}
use Rattle.std.specs.List.{AllByRecursion}
use Rattle.std.proofs.lemmas.List.{append-nil, length-append, take_at, drop_at}
use Rattle.std.proofs.lemmas.List.Concat.{flat_map-cons}
use Rattle.std.proofs.lemmas.List.Elements.{All-from_recursion, recursion_from_All}
use Rattle.xet_xorb.specs.ChunkLists.{IsChunk}
use Rattle.xet_xorb.specs.XorbBytes.{header_bytes, chunk_bytes, xorb_text, AreChunksOf, AreWholeChunks}
use Rattle.xet_bytes.specs.declared.cursor.ReadError.{ReadError}
use Rattle.xet_bytes.specs.declared.cursor.ReadError.TheVariants.{Malformed}
use Rattle.xet_xorb.specs.Steps.{header_at, HasChunk, TakesChunk}
use Rattle.xet_xorb.specs.Walks.{chunks_behind, chunks_within, chunks_in, AreChunksIn, IsTextOfChunks}
use Rattle.xet_xorb.proofs.ChunkText.{header_field, length-header, same_chunk, IsReadSoFar, some_left, none_left}
use Rattle.xet_xorb.proofs.WholeText.{is_empty, are_whole}

-- the header of the first chunk
header-first : (c : List ℕ) (cs : List (List ℕ)) → IsChunk c → header_at (xorb_text (c ∷ cs)) ≡ Some (length c, c ++ xorb_text cs)
header-first c cs fits =
    ap header_at (flat_map-cons chunk_bytes c cs ∙ append_assoc (header_bytes (length c)) c (xorb_text cs)) ∙ header_field.again (length c) (c ++ xorb_text cs) fits

within : (n : ℕ) (chunks : List (List ℕ)) → AllByRecursion IsChunk chunks → length chunks ≤ n → chunks_within n (xorb_text chunks) ≡ chunks
within zero [] each few = refl
within zero (c ∷ cs) each few = absurd (omega (arith, few))
within (suc n) [] each few = refl
within (suc n) (c ∷ cs) each few =
    let first : chunks_within (suc n) (xorb_text (c ∷ cs)) ≡ chunks_behind (chunks_within n) (Some (length c, c ++ xorb_text cs)) = ap (chunks_behind (chunks_within n)) (header-first c cs each.0) in
    let front : take (length c) (c ++ xorb_text cs) ≡ c = take_at c (xorb_text cs) (length c) refl in
    let back : chunks_within n (drop (length c) (c ++ xorb_text cs)) ≡ cs = ap (chunks_within n) (drop_at c (xorb_text cs) (length c) refl) ∙ within n cs each.1 (omega (arith, few)) in
    first ∙ ap (λ (x : List ℕ). x ∷ chunks_within n (drop (length c) (c ++ xorb_text cs))) front ∙ ap (λ (xs : List (List ℕ)). c ∷ xs) back

-- there are no more chunks than bytes
fewer : (chunks : List (List ℕ)) → length chunks ≤ length (xorb_text chunks)
fewer [] = omega arith
fewer (c ∷ cs) = omega (arith, ap length (flat_map-cons chunk_bytes c cs), length-append (chunk_bytes c) (xorb_text cs), length-append (header_bytes (length c)) c, length-header (length c), fewer cs)

-- bytes that are chunks begin with these
pub chunks_in-are : (bytes : List ℕ) (chunks : List (List ℕ)) → AreChunksOf bytes chunks → chunks_in bytes ≡ chunks
unfolding chunks_in
chunks_in-are bytes chunks are =
    rw are.text (within (length (xorb_text chunks)) chunks (recursion_from_All IsChunk chunks are.each) (fewer chunks))

pub are_chunks_in : (bytes : List ℕ) (chunks : List (List ℕ)) → AreChunksOf bytes chunks → AreChunksIn bytes
are_chunks_in bytes chunks are = subst (AreChunksOf bytes) (sym (chunks_in-are bytes chunks are)) are

pub are_whole_in : (bytes : List ℕ) (chunks : List (List ℕ)) → AreWholeChunks bytes chunks → AreWholeChunks bytes (chunks_in bytes)
are_whole_in bytes chunks are = subst (AreWholeChunks bytes) (sym (chunks_in-are bytes chunks are.spelled)) are

pub no_text : AreChunksOf [] []
no_text = record { each = All-from_recursion IsChunk [] tt; text = refl }

-- ---- the next chunk

-- bytes that are chunks, and begin with this one
pub record IsNext (bytes chunk rest : List ℕ) : Type 0 where
  pub chunks : chunks_in bytes ≡ chunk ∷ chunks_in rest
  pub left : AreChunksIn rest

behind_first : (bytes chunk rest : List ℕ) (chunks : List (List ℕ)) → AreChunksOf bytes chunks → chunks_in bytes ≡ chunks → HasChunk bytes chunk rest → IsNext bytes chunk rest
behind_first bytes chunk rest [] are same has =
    absurd (omega (arith, ap length (sym are.text ∙ has.text), length-append (chunk_bytes chunk) rest, length-append (header_bytes (length chunk)) chunk, has.fits.0))
behind_first bytes chunk rest (c ∷ cs) are same has =
    let each : AllByRecursion IsChunk (c ∷ cs) = recursion_from_All IsChunk (c ∷ cs) are.each in
    let one = same_chunk c chunk (xorb_text cs) rest each.0 has.fits (sym (flat_map-cons chunk_bytes c cs) ∙ sym are.text ∙ has.text) in
    let others : AreChunksOf rest cs = record { each = All-from_recursion IsChunk cs each.1; text = sym one.rest } in
    record {
      chunks = same ∙ ap (λ (x : List ℕ). x ∷ cs) one.chunk ∙ ap (λ (xs : List (List ℕ)). chunk ∷ xs) (sym (chunks_in-are rest cs others));
      left = are_chunks_in rest cs others;
    }

pub is_next : (bytes chunk rest : List ℕ) → AreChunksIn bytes → HasChunk bytes chunk rest → IsNext bytes chunk rest
is_next bytes chunk rest are has = behind_first bytes chunk rest (chunks_in bytes) are refl has

no_first : (bytes : List ℕ) (chunks : List (List ℕ)) → AreChunksOf bytes chunks → ((chunk rest : List ℕ) → HasChunk bytes chunk rest → ⊥) → chunks ≡ []
no_first bytes [] are none = refl
no_first bytes (c ∷ cs) are none =
    let each : AllByRecursion IsChunk (c ∷ cs) = recursion_from_All IsChunk (c ∷ cs) are.each in
    absurd (none c (xorb_text cs) (record { fits = each.0; text = are.text ∙ flat_map-cons chunk_bytes c cs }))

-- bytes that are chunks, and begin with none
pub is_last : (bytes : List ℕ) → AreChunksIn bytes → ((chunk rest : List ℕ) → HasChunk bytes chunk rest → ⊥) → chunks_in bytes ≡ []
is_last bytes are none = no_first bytes (chunks_in bytes) are none

-- ---- to the end

pub none_taken : {X : Type 0} (chunk after : X → List ℕ) (e : ReadError) (bytes : List ℕ) → e ≡ Malformed → TakesChunk chunk bytes (Err e) after → (first rest : List ℕ) → HasChunk bytes first rest → ⊥
none_taken chunk after e bytes is taken = subst (λ (x : ReadError). TakesChunk chunk bytes (Err x) after) is taken

empty_text : (bytes : List ℕ) (chunks : List (List ℕ)) (rest : List ℕ) → IsReadSoFar bytes chunks rest → bytes ≡ [] → chunks ≡ []
empty_text bytes [] rest h none = refl
empty_text bytes (c ∷ cs) rest h none =
    absurd (omega (arith, ap length (sym h.text ∙ none), length-append (xorb_text (c ∷ cs)) rest, ap length (flat_map-cons chunk_bytes c cs), length-append (chunk_bytes c) (xorb_text cs), length-append (header_bytes (length c)) c, h.each.0.0))

some_text : (bytes : List ℕ) (chunks : List (List ℕ)) → bytes ≡ xorb_text chunks → 0 < length bytes → 0 < length chunks
some_text bytes [] text some = absurd (omega (arith, ap length text, some))
some_text bytes (c ∷ cs) text some = omega arith

pub read_to_end : (bytes : List ℕ) (chunks : List (List ℕ)) (rest : List ℕ) (empty : Bool) → eqb (length bytes) 0 ≡ empty → IsReadSoFar bytes chunks rest → rest ≡ [] → IsTextOfChunks bytes (not empty)
read_to_end bytes chunks rest true none h end = λ others are. is_empty bytes chunks others rest h end (ap length (empty_text bytes chunks rest h (none_left bytes none))) are
read_to_end bytes chunks rest false some h end =
    let text : bytes ≡ xorb_text chunks = h.text ∙ ap (λ (t : List ℕ). xorb_text chunks ++ t) end ∙ append-nil (xorb_text chunks) in
    are_whole_in bytes chunks (are_whole bytes chunks rest h end (some_text bytes chunks text (some_left bytes some)))
