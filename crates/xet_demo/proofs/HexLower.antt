-- Digits in lower case, sixteen bytes at a time.
use Rattle.std.proofs.Common.{◌≡◌, ℕ, ◌+◌, ◌*◌, ◌≤◌, Bool, true, false, not, eqb, cond, List, [], ◌∷◌, ◌++◌, length, take, drop, drop-drop, refl, sym, ap, ◌∙◌, arith}
use Rattle.std.proofs.lemmas.Bool.{eqb-true}
use Rattle.std.proofs.Math.Seq.{take-add}
use Rattle.std.proofs.lemmas.Simd.{take_more_put_chunk}
use lib.Lanes.{zip2, mask_l, chunk, put_chunk}
use Rattle.hex.specs.Hex.{encode_with}
use Rattle.xet_demo.proofs.Printing.{encode_with-append}

no_bits : (b : Bool) (bits : ℕ) → cond b 1 0 + 2 * bits ≡ 0 → (not b ≡ true) × (bits ≡ 0)
no_bits true bits none = absurd (omega arith)
no_bits false bits none = (refl, omega arith)

equal : (b : Bool) → not (not b) ≡ true → b ≡ true
equal true h = refl
equal false h = absurd cc

-- no bit is set where two lists differ
pub same_lanes : (xs ys : List ℕ) → length xs ≡ length ys → mask_l (zip2 (λ a b. not (eqb a b)) xs ys) ≡ 0 → xs ≡ ys
same_lanes [] [] long none = refl
same_lanes [] (y ∷ ys) long none = absurd (omega arith)
same_lanes (x ∷ xs) [] long none = absurd (omega arith)
same_lanes (x ∷ xs) (y ∷ ys) long none =
    let bits = no_bits (not (eqb x y)) (mask_l (zip2 (λ a b. not (eqb a b)) xs ys)) none in
    let first : x ≡ y = eqb-true x y (equal (eqb x y) bits.0) in
    ap (λ (v : ℕ). v ∷ xs) first ∙ ap (λ (vs : List ℕ). y ∷ vs) (same_lanes xs ys (omega arith) bits.1)

-- bytes are put behind others, and their digits stand behind those of the others
pub put_behind : (t out bytes digits : List ℕ) (at : ℕ) → length bytes ≡ 16 → at + 16 ≤ length out → digits ≡ encode_with t bytes → encode_with t (take (at + 16) (put_chunk at out bytes)) ≡ encode_with t (take at out) ++ digits
put_behind t out bytes digits at long inside is =
    ap (encode_with t) (take_more_put_chunk at out bytes (at + 16) (omega (arith, long)) inside)
    ∙ encode_with-append t (take at out) bytes ∙ ap (λ (ds : List ℕ). encode_with t (take at out) ++ ds) (sym is)

-- two chunks, one behind the other
pub two_chunks : (text first second : List ℕ) (at : ℕ) → first ≡ chunk at 16 text → second ≡ chunk (at + 16) 16 text → chunk at 32 text ≡ first ++ second
two_chunks text first second at one other = rw (one, other) (take-add 16 16 (drop at text) ∙ ap (λ (rest : List ℕ). take 16 (drop at text) ++ take 16 rest) (drop-drop 16 at text))

-- the digits of sixteen bytes more
pub sixteen_more : (text : List ℕ) (at : ℕ) → take (2 * at) text ++ chunk (2 * at) 32 text ≡ take (2 * (at + 16)) text
sixteen_more text at =
    let end : 2 * at + 32 ≡ 2 * (at + 16) = omega arith in
    sym (take-add (2 * at) 32 text) ∙ ap (λ (n : ℕ). take n text) end
