-- Whole chunks to the end of the bytes.
use Rattle.std.proofs.Common.{◌≡◌, ℕ, ◌<◌, List, [], ◌++◌, length, sym, ap, ◌∙◌, arith}
use Rattle.std.specs.Prelude.{Err}
use Rattle.std.specs.List.{AllByRecursion}
use Rattle.std.proofs.lemmas.List.{append-nil}
use Rattle.std.proofs.lemmas.List.Elements.{All-from_recursion, recursion_from_All}
use Rattle.xet_bytes.specs.declared.cursor.ReadError.{ReadError}
use Rattle.xet_bytes.specs.declared.cursor.ReadError.TheVariants.{Memory, Malformed}
use Rattle.xet_xorb.specs.ChunkLists.{IsChunk}
use Rattle.xet_xorb.specs.XorbBytes.{xorb_text, AreWholeChunks}
use Rattle.xet_xorb.specs.Steps.{TakesChunk, TakesChunks}
use Rattle.xet_xorb.proofs.ChunkText.{IsReadSoFar, stops, is_done, xorb_text-injective}

each_of : (bytes : List ℕ) (others : List (List ℕ)) → AreWholeChunks bytes others → AllByRecursion IsChunk others
each_of bytes others are = recursion_from_All IsChunk others are.spelled.each

-- where no chunk is taken, the bytes are no whole chunks
pub stops_by : {X : Type 0} (chunk after : X → List ℕ) (e : ReadError) (bytes : List ℕ) (chunks : List (List ℕ)) (rest : List ℕ) → 0 < length rest → IsReadSoFar bytes chunks rest → TakesChunk chunk rest (Err e) after → TakesChunks bytes (Err e)
stops_by chunk after Memory bytes chunks rest some h e = tt
stops_by chunk after Malformed bytes chunks rest some h e = λ others are. stops bytes chunks others rest some h e (each_of bytes others are) are.spelled.text

-- no bytes are no chunks
pub is_empty : (bytes : List ℕ) (chunks others : List (List ℕ)) (rest : List ℕ) → IsReadSoFar bytes chunks rest → rest ≡ [] → length chunks ≡ 0 → AreWholeChunks bytes others → ⊥
is_empty bytes chunks others rest h end none are =
    let same : others ≡ chunks = is_done bytes chunks others rest h end (each_of bytes others are) are.spelled.text in
    absurd (omega (arith, ap length same, none, are.some))

pub are_whole : (bytes : List ℕ) (chunks : List (List ℕ)) (rest : List ℕ) → IsReadSoFar bytes chunks rest → rest ≡ [] → 0 < length chunks → AreWholeChunks bytes chunks
are_whole bytes chunks rest h end some = record {
  spelled = record {
    each = All-from_recursion IsChunk chunks h.each;
    text = h.text ∙ ap (λ (t : List ℕ). xorb_text chunks ++ t) end ∙ append-nil (xorb_text chunks);
  };
  some = some;
}

-- The bytes spell one list of whole chunks.
pub AreWholeChunks-unique : (bytes : List ℕ) (xs ys : List (List ℕ)) → AreWholeChunks bytes xs → AreWholeChunks bytes ys → xs ≡ ys
AreWholeChunks-unique bytes xs ys h k = xorb_text-injective xs ys h.spelled.each k.spelled.each (sym h.spelled.text ∙ k.spelled.text)
