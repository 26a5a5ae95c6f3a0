-- Bytes below 128, sixteen at a time.
use Rattle.std.proofs.Common.{◌≡◌, ℕ, ◌+◌, ◌*◌, ◌≤◌, ◌∙◌, Bool, true, false, not, cond, eqb, leb, ◌&&◌, List, [], ◌∷◌, ◌++◌, map, length, take, drop, refl, sym, ap, arith}
use Rattle.std.specs.List.{list_all}
use Rattle.std.specs.Char.{is_ascii}
use Rattle.std.proofs.Math.Seq.{take-add}
use Rattle.std.proofs.lemmas.Bool.Decides.{nat_tests}
use Rattle.std.proofs.lemmas.List.{take-append-drop, take-take, take_all}
use Rattle.std.proofs.lemmas.List.Folds.{list_all-append}
use Rattle.std.proofs.lemmas.Simd.{chunk-drop}
use lib.Lanes.{mask_l, chunk}

one_bit : (b r : Bool) (bits : ℕ) → eqb bits 0 ≡ r → eqb (cond b 1 0 + 2 * bits) 0 ≡ (not b && r)
one_bit true r bits is = grind (arith, nat_tests)
one_bit false r bits is = grind (arith, nat_tests)

below : (x : ℕ) → not (leb 128 x) ≡ is_ascii x
below x = grind (arith, nat_tests)

-- no bit is set where all bytes are below 128
pub none_set : (xs : List ℕ) → eqb (mask_l (map (leb 128) xs)) 0 ≡ list_all is_ascii xs
none_set [] = refl
none_set (x ∷ xs) = one_bit (leb 128 x) (list_all is_ascii xs) (mask_l (map (leb 128) xs)) (none_set xs) ∙ ap (λ (b : Bool). b && list_all is_ascii xs) (below x)

middle_fails : (a b c : Bool) → b ≡ false → (a && (b && c)) ≡ false
middle_fails true b c is = rw is refl
middle_fails false b c is = refl

first_holds : (a b : Bool) → (a && b) ≡ true → a ≡ true
first_holds true b h = refl
first_holds false b h = h

both_hold : (a b : Bool) → a ≡ true → b ≡ true → (a && b) ≡ true
both_hold a b one other = rw (one, other) refl

last_decides : (a b : Bool) → a ≡ true → (a && b) ≡ b
last_decides a b is = rw is refl

-- a part that fails
pub part_fails : (p : ℕ → Bool) (text : List ℕ) (at : ℕ) → list_all p (chunk at 16 text) ≡ false → list_all p text ≡ false
part_fails p text at fails =
    let part : List ℕ = chunk at 16 text in
    let back : List ℕ = drop (at + 16) text in
    ap (list_all p) (sym (take-append-drop at text) ∙ ap (λ (rest : List ℕ). take at text ++ rest) (chunk-drop at 16 text))
    ∙ list_all-append p (take at text) (part ++ back) ∙ ap (λ (b : Bool). list_all p (take at text) && b) (list_all-append p part back)
    ∙ middle_fails (list_all p (take at text)) (list_all p part) (list_all p back) fails

-- a front, and the part behind it
pub part_more : (p : ℕ → Bool) (text : List ℕ) (at : ℕ) → list_all p (take (at + 16) text) ≡ (list_all p (take at text) && list_all p (chunk at 16 text))
part_more p text at = ap (list_all p) (take-add at 16 text) ∙ list_all-append p (take at text) (chunk at 16 text)

pub part_holds : (p : ℕ → Bool) (text : List ℕ) (at : ℕ) → list_all p (take at text) ≡ true → list_all p (chunk at 16 text) ≡ true → list_all p (take (at + 16) text) ≡ true
part_holds p text at front part = part_more p text at ∙ both_hold (list_all p (take at text)) (list_all p (chunk at 16 text)) front part

fewer_hold : (p : ℕ → Bool) (text : List ℕ) (few many : ℕ) → few ≤ many → list_all p (take many text) ≡ true → list_all p (take few text) ≡ true
fewer_hold p text few many le all =
    let front : List ℕ = take many text in
    let cut : list_all p front ≡ (list_all p (take few front) && list_all p (drop few front)) = ap (list_all p) (sym (take-append-drop few front)) ∙ list_all-append p (take few front) (drop few front) in
    ap (list_all p) (sym (take-take few many text le)) ∙ first_holds (list_all p (take few front)) (list_all p (drop few front)) (sym cut ∙ all)

-- the last part decides, where it ends with the text and all before it holds
pub last_part : (p : ℕ → Bool) (text : List ℕ) (last at : ℕ) → last + 16 ≡ length text → last ≤ at → list_all p (take at text) ≡ true → list_all p (chunk last 16 text) ≡ list_all p text
last_part p text last at end le all =
    sym (last_decides (list_all p (take last text)) (list_all p (chunk last 16 text)) (fewer_hold p text last at le all))
    ∙ sym (part_more p text last) ∙ ap (list_all p) (take_all (last + 16) text (omega (arith, end)))
