-- Which lengths are those of a xorb's chunks, tested one by one.
use Rattle.std.proofs.Common.{◌≡◌, ℕ, ◌+◌, ◌^◌, ◌<◌, ◌≤◌, Bool, true, false, List, [], ◌∷◌, ◌++◌, length, get_or, map, take, drop, All, eqb, not, refl, sym, ap, subst, arith}
use Rattle.std.proofs.lemmas.Bool.{eqb-true}
use Rattle.std.proofs.lemmas.List.{length-append, length-map, map-append, map_more, get_or-map, take_all, take-append-drop}
use Rattle.std.proofs.lemmas.List.Elements.{All-map}
use Rattle.std.proofs.lemmas.List.Sums.{sum_by-cons}
use Rattle.xet_xorb.specs.Lengths.{IsChunkLength, AreLengths, serialized_length}
use Rattle.xet_xorb.proofs.ChunkText.{some_left}
use Rattle.xet_xorb.proofs.Joining.{sum-append}

abbrev pub sizes : List (ℕ × ℕ) → List ℕ
sizes ss = map (λ s. s.1) ss

ser-append : (xs ys : List ℕ) → serialized_length (xs ++ ys) + 48 ≡ serialized_length xs + serialized_length ys
ser-append xs ys = omega (arith, sum-append xs ys, length-append xs ys)

-- with one length more
pub one_more : (ss : List (ℕ × ℕ)) (i : ℕ) (d : ℕ × ℕ) → i < length ss → serialized_length (sizes (take (i + 1) ss)) ≡ serialized_length (sizes (take i ss)) + (48 + (get_or ss i d).1)
one_more ss i d l =
    let n = (get_or ss i d).1 in
    omega (arith, ap serialized_length (map_more (λ (s : ℕ × ℕ). s.1) ss i d l), ser-append (sizes (take i ss)) (n ∷ []), sum_by-cons (λ (x : ℕ). x) n [])

pub too_big : (ss : List (ℕ × ℕ)) (i : ℕ) → 2 ^ 32 ≤ serialized_length (sizes (take i ss)) → AreLengths (sizes ss) → ⊥
too_big ss i long h =
    let whole : serialized_length (sizes (take i ss ++ drop i ss)) ≡ serialized_length (sizes ss) = ap (λ (xs : List (ℕ × ℕ)). serialized_length (sizes xs)) (take-append-drop i ss) in
    absurd (omega (arith, whole, ap serialized_length (map-append (λ (s : ℕ × ℕ). s.1) (take i ss) (drop i ss)), ser-append (sizes (take i ss)) (sizes (drop i ss)), h.short, long))

-- a length that is none of a chunk
pub no_length : (ss : List (ℕ × ℕ)) (i : ℕ) (d : ℕ × ℕ) → i < length ss → (IsChunkLength (get_or ss i d).1 → ⊥) → AreLengths (sizes ss) → ⊥
no_length ss i d l never h = never (subst IsChunkLength (get_or-map (λ (s : ℕ × ℕ). s.1) ss i d 0 l) (h.each i 0 (omega (arith, length-map ss (λ (s : ℕ × ℕ). s.1), l))))

pub are_all : (ss : List (ℕ × ℕ)) (i : ℕ) → length ss ≤ i → All (λ s. IsChunkLength s.1) (take i ss) → serialized_length (sizes (take i ss)) < 2 ^ 32 → 0 < length ss → AreLengths (sizes ss)
are_all ss i end each short some =
    let all : take i ss ≡ ss = take_all i ss end in
    record {
      some = omega (arith, length-map ss (λ (s : ℕ × ℕ). s.1), some);
      each = All-map IsChunkLength (λ (s : ℕ × ℕ). s.1) ss (subst (All (λ (s : ℕ × ℕ). IsChunkLength s.1)) all each);
      short = subst (λ (xs : List (ℕ × ℕ)). serialized_length (sizes xs) < 2 ^ 32) all short;
    }

-- no lengths are none of a xorb
pub empty_iff : (ss : List (ℕ × ℕ)) (empty : Bool) → empty ≡ eqb (length ss) 0 → (0 < length ss → AreLengths (sizes ss)) → (not empty ≡ true → AreLengths (sizes ss)) × (AreLengths (sizes ss) → not empty ≡ true)
empty_iff ss true e h = (λ t. absurd cc, λ are. absurd (omega (arith, are.some, length-map ss (λ (s : ℕ × ℕ). s.1), eqb-true (length ss) 0 (sym e))))
empty_iff ss false e h = (λ _. h (some_left ss (sym e)), λ _. refl)
