-- Which lists are well formed, tested chunk by chunk.
use Rattle.std.proofs.Common.{◌≡◌, ℕ, ◌+◌, ◌^◌, ◌<◌, ◌≤◌, Bool, true, false, List, [], ◌∷◌, ◌++◌, length, get_or, take, drop, All, eqb, not, refl, sym, ap, subst, ◌∙◌, arith}
use Rattle.std.proofs.lemmas.Bool.{eqb-true}
use Rattle.std.proofs.lemmas.List.{take_more, take_all, take-append-drop}
use Rattle.std.proofs.lemmas.List.Elements.{All-from_recursion, recursion_from_All}
use Rattle.xet_xorb.specs.Lengths.{IsChunkLength, serialized_length}
use Rattle.xet_xorb.specs.ChunkLists.{IsChunk, IsWellFormed, lengths_of}
use Rattle.xet_xorb.proofs.ChunkText.{each_of_formed, lengths_of_each, lengths-length, serialized-append, serialized-push, some_left}

pub false_iff : {P : Type 0} → (P → ⊥) → (false ≡ true → P) × (P → false ≡ true)
false_iff never = (λ e. absurd cc, λ p. absurd (never p))

pub true_iff : {P : Type 0} → P → (true ≡ true → P) × (P → true ≡ true)
true_iff always = (λ _. always, λ _. refl)

pub chunk_of_formed : (chunks : List (List ℕ)) (i : ℕ) (chunk : List ℕ) → IsWellFormed chunks → i < length chunks → chunk ≡ get_or chunks i chunk → IsChunk chunk
chunk_of_formed chunks i chunk h lt is = subst IsChunk (sym is) (All-from_recursion IsChunk chunks (each_of_formed chunks h) i chunk lt)

-- with one chunk more
pub serialized-more : (chunks : List (List ℕ)) (i : ℕ) (chunk : List ℕ) → i < length chunks → chunk ≡ get_or chunks i chunk → serialized_length (lengths_of (take (i + 1) chunks)) ≡ serialized_length (lengths_of (take i chunks)) + (48 + length chunk)
serialized-more chunks i chunk lt is =
    let more : take (i + 1) chunks ≡ take i chunks ++ chunk ∷ [] = take_more chunks i chunk lt ∙ ap (λ (x : List ℕ). take i chunks ++ x ∷ []) (sym is) in
    ap (λ (xs : List (List ℕ)). serialized_length (lengths_of xs)) more ∙ serialized-push (take i chunks) chunk

pub too_big : (chunks : List (List ℕ)) (i : ℕ) → 2 ^ 32 ≤ serialized_length (lengths_of (take i chunks)) → IsWellFormed chunks → ⊥
too_big chunks i long h =
    let whole : serialized_length (lengths_of (take i chunks ++ drop i chunks)) ≡ serialized_length (lengths_of chunks) = ap (λ (xs : List (List ℕ)). serialized_length (lengths_of xs)) (take-append-drop i chunks) in
    let parts = serialized-append (take i chunks) (drop i chunks) in
    let short : serialized_length (lengths_of chunks) < 2 ^ 32 = h.lengths.short in
    absurd (omega (arith, whole, parts, short, long))

pub is_formed : (chunks : List (List ℕ)) (i : ℕ) → length chunks ≤ i → All IsChunk (take i chunks) → serialized_length (lengths_of (take i chunks)) < 2 ^ 32 → 0 < length chunks → IsWellFormed chunks
is_formed chunks i end each short some =
    let all : take i chunks ≡ chunks = take_all i chunks end in
    record {
      lengths = record {
        some = omega (arith, lengths-length chunks);
        each = All-from_recursion IsChunkLength (lengths_of chunks) (lengths_of_each chunks (recursion_from_All IsChunk chunks (subst (All IsChunk) all each)));
        short = subst (λ (xs : List (List ℕ)). serialized_length (lengths_of xs) < 2 ^ 32) all short;
      };
    }

-- no chunks are no list
pub empty_iff : (chunks : List (List ℕ)) (empty : Bool) → empty ≡ eqb (length chunks) 0 → (0 < length chunks → IsWellFormed chunks) → (not empty ≡ true → IsWellFormed chunks) × (IsWellFormed chunks → not empty ≡ true)
empty_iff chunks true e h = (λ t. absurd cc, λ formed. absurd (omega (arith, formed.lengths.some, lengths-length chunks, eqb-true (length chunks) 0 (sym e))))
empty_iff chunks false e h = (λ _. h (some_left chunks (sym e)), λ _. refl)
