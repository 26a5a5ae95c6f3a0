-- Hexadecimal digits of sixteen bytes at a time.
use Rattle.std.proofs.Common.{◌≡◌, ℕ, ◌+◌, ◌*◌, ◌/◌, ◌%◌, ◌^◌, ◌<◌, ◌≤◌, List, [], ◌∷◌, ◌++◌, map, length, take, drop, get_or, replicate, bit_and, slice_index, refl, sym, ap, ◌∙◌, append_assoc, arith, w8, Fits}
use Rattle.std.specs.List.{range_with_len}
use Rattle.std.proofs.Math.Seq.{take-add}
use Rattle.std.proofs.lemmas.List.{get_or-map, length-map, ext_get_or, take-take, take_all, take-append-drop, take-append-le, length-take}
use Rattle.std.proofs.lemmas.Nat.{and_le_r, and_mask}
use Rattle.std.proofs.lemmas.Simd.{map-map, Each1-all, Each1-get_or, Each1-weaker, Each1-zip2, Each2-splat, below_from_Fits, zip2_splat, swz_l, length-swz_l, get_or-swz_l_below, pick_l_whole, take_more_put_chunk, length-put_chunk}
use lib.Lanes.{Each1, zip2, chunk, put_chunk, pick_l}
use Rattle.hex.specs.Hex.{encode_with}
use Rattle.hex.proofs.HexLemmas.{length-encode_with}
use Rattle.xet_demo.proofs.Printing.{encode_with-append}

-- a table of sixteen, read at sixteen places
pub looked_up : (t places : List ℕ) → length places ≡ 16 → Each1 (λ i. i < 16) places → swz_l w8 16 t 0 places ≡ map (λ i. slice_index t i) places
looked_up t places long small =
    ext_get_or 0 _ _ (length-swz_l w8 16 t 0 places ∙ sym (length-map places (λ i. slice_index t i))) (λ i h.
    let within : i < length places = omega (arith, length-swz_l w8 16 t 0 places) in
    let below : get_or places i 0 < 16 = Each1-get_or (λ p. p < 16) places i 0 within small in
    get_or-swz_l_below w8 16 t 0 places i within below ∙ ap (λ k. get_or t k 0) (omega arith) ∙ sym (get_or-map (λ p. slice_index t p) places i 0 0 within))

abbrev down : ℕ → ℕ → ℕ
down a b = a / 2 ^ b

pub high_small : (bytes : List ℕ) → Each1 (Fits w8) bytes → Each1 (λ i. i < 16) (zip2 down bytes (replicate 16 4))
high_small bytes fits =
    let small = Each1-weaker (λ a. a < 256) (λ a. a / 16 < 16) (λ a h. omega arith) bytes (below_from_Fits w8 bytes fits) in
    Each1-zip2 down (λ i. i < 16) bytes (replicate 16 4) (Each2-splat (λ a b. down a b < 16) bytes 16 4 small)

pub low_small : (bytes : List ℕ) → Each1 (λ i. i < 16) (zip2 bit_and bytes (replicate 16 15))
low_small bytes =
    let small = Each1-all (λ a. bit_and a 15 < 16) (λ a. omega (arith, and_le_r a 15)) bytes in
    Each1-zip2 bit_and (λ i. i < 16) bytes (replicate 16 15) (Each2-splat (λ a b. bit_and a b < 16) bytes 16 15 small)

abbrev pub alternating : List ℕ
alternating = 0 ∷ 16 ∷ 1 ∷ 17 ∷ 2 ∷ 18 ∷ 3 ∷ 19 ∷ 4 ∷ 20 ∷ 5 ∷ 21 ∷ 6 ∷ 22 ∷ 7 ∷ 23 ∷ 8 ∷ 24 ∷ 9 ∷ 25 ∷ 10 ∷ 26 ∷ 11 ∷ 27 ∷ 12 ∷ 28 ∷ 13 ∷ 29 ∷ 14 ∷ 30 ∷ 15 ∷ 31 ∷ []

abbrev sixteen : List ℕ → List ℕ
sixteen bytes = pick_l 0 bytes (range_with_len 0 16)

in_full : (t bytes : List ℕ) → pick_l 0 (map (λ b. slice_index t (b / 16)) (sixteen bytes) ++ map (λ b. slice_index t (b % 16)) (sixteen bytes)) alternating ≡ encode_with t (sixteen bytes)
unfolding encode_with
in_full t bytes = refl

high_digits : (t bytes : List ℕ) → length bytes ≡ 16 → map (λ i. slice_index t i) (zip2 down bytes (replicate 16 4)) ≡ map (λ b. slice_index t (b / 16)) bytes
high_digits t bytes long = ap (map (λ i. slice_index t i)) (zip2_splat down bytes 16 4 long) ∙ map-map (λ i. slice_index t i) (λ b. down b 4) bytes

low_digits : (t bytes : List ℕ) → length bytes ≡ 16 → map (λ i. slice_index t i) (zip2 bit_and bytes (replicate 16 15)) ≡ map (λ b. slice_index t (b % 16)) bytes
low_digits t bytes long =
    ap (map (λ i. slice_index t i)) (zip2_splat bit_and bytes 16 15 long) ∙ map-map (λ i. slice_index t i) (λ b. bit_and b 15) bytes
    ∙ ext_get_or 0 _ _ (length-map bytes (λ b. slice_index t (bit_and b 15)) ∙ sym (length-map bytes (λ b. slice_index t (b % 16)))) (λ i h.
    let within : i < length bytes = omega (arith, length-map bytes (λ b. slice_index t (bit_and b 15))) in
    get_or-map (λ b. slice_index t (bit_and b 15)) bytes i 0 0 within ∙ ap (λ k. slice_index t k) (and_mask (get_or bytes i 0) 4) ∙ sym (get_or-map (λ b. slice_index t (b % 16)) bytes i 0 0 within))

-- the digits of the high and the low halves, one after the other
pub interleaved : (t bytes high low : List ℕ) → length bytes ≡ 16 → high ≡ map (λ i. slice_index t i) (zip2 down bytes (replicate 16 4)) → low ≡ map (λ i. slice_index t i) (zip2 bit_and bytes (replicate 16 15)) → pick_l 0 (high ++ low) alternating ≡ encode_with t bytes
interleaved t bytes high low long eh el =
    let whole : sixteen bytes ≡ bytes = pick_l_whole 0 bytes 16 long in
    ap (λ (h : List ℕ). pick_l 0 (h ++ low) alternating) (eh ∙ high_digits t bytes long ∙ ap (map (λ b. slice_index t (b / 16))) (sym whole))
    ∙ ap (λ (l : List ℕ). pick_l 0 (map (λ b. slice_index t (b / 16)) (sixteen bytes) ++ l) alternating) (el ∙ low_digits t bytes long ∙ ap (map (λ b. slice_index t (b % 16))) (sym whole))
    ∙ in_full t bytes ∙ ap (encode_with t) whole

-- two vectors are stored, one behind the other
pub stored_twice : (out front back digits : List ℕ) (at : ℕ) → length front ≡ 16 → length back ≡ 16 → at + 32 ≤ length out → front ++ back ≡ digits → take (at + 32) (put_chunk (at + 16) (put_chunk at out front) back) ≡ take at out ++ digits
stored_twice out front back digits at f b room is =
    take_more_put_chunk (at + 16) (put_chunk at out front) back (at + 32) (omega arith) (omega (arith, length-put_chunk at out front))
    ∙ ap (λ (xs : List ℕ). xs ++ back) (take_more_put_chunk at out front (at + 16) (omega arith) (omega arith))
    ∙ append_assoc (take at out) front back ∙ ap (λ (xs : List ℕ). take at out ++ xs) is

-- sixteen bytes more
pub encode_block : (t bytes : List ℕ) (at : ℕ) → encode_with t (take at bytes) ++ encode_with t (chunk at 16 bytes) ≡ encode_with t (take (at + 16) bytes)
encode_block t bytes at = sym (encode_with-append t (take at bytes) (chunk at 16 bytes)) ∙ ap (encode_with t) (sym (take-add at 16 bytes))

-- the digits of fewer bytes stand at the front
pub encode_fewer : (t bytes out : List ℕ) (few many : ℕ) → few ≤ many → many ≤ length bytes → take (2 * many) out ≡ encode_with t (take many bytes) → take (2 * few) out ≡ encode_with t (take few bytes)
encode_fewer t bytes out few many le within is =
    let front : take few (take many bytes) ≡ take few bytes = take-take few many bytes le in
    let digits = encode_with t (take few bytes) in
    let long : length digits ≡ 2 * few = length-encode_with t (take few bytes) ∙ ap (λ (n : ℕ). 2 * n) (omega (arith, length-take few bytes)) in
    let parts : encode_with t (take many bytes) ≡ digits ++ encode_with t (drop few (take many bytes)) =
    ap (encode_with t) (sym (take-append-drop few (take many bytes))) ∙ ap (λ (xs : List ℕ). encode_with t (xs ++ drop few (take many bytes))) front ∙ encode_with-append t (take few bytes) (drop few (take many bytes)) in
    sym (take-take (2 * few) (2 * many) out (omega arith)) ∙ ap (take (2 * few)) (is ∙ parts)
    ∙ take-append-le (2 * few) digits (encode_with t (drop few (take many bytes))) (omega (arith, long)) ∙ take_all (2 * few) digits (omega (arith, long))
