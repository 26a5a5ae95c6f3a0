-- Numbers in 20 digits: they are read as they are written, and 20 digits are those of the number that they write.
use Rattle.std.specs.Prelude.{decimal, Option, MatchOption}
use Rattle.std.proofs.Common.{◌≡◌, ◌≢◌, ℕ, zero, suc, ◌+◌, ◌-◌, ◌<◌, ◌≤◌, ◌^◌, Bool, true, false, eqb, List, [], ◌∷◌, ◌++◌, length, replicate, get_or, take, drop, Some, None, refl, sym, ap, ◌∙◌, arith, subst, length-append, lit<}
use Rattle.std.specs.Fmt.{padded_integral, format_spec, char_count}
use Rattle.std.specs.Str.{IsUtf8}
use Rattle.std.specs.Str.Parse.{AllDigits, IsNumeral, digits_value, without_leading_plus}
use Rattle.std.proofs.lemmas.Fmt.{decimal_is_IsNumeral, decimal_is_IsNumeral_wide, length-decimal-le, decimal-digits_value, IsAscii-from_digits}
use Rattle.std.proofs.lemmas.Str.Parse.{digit_at, without_leading_plus_none, numerals_by_value, tells_digits}
use Rattle.std.proofs.lemmas.Str.{IsUtf8-from_ascii}
use Rattle.std.proofs.lemmas.List.{length-replicate, length-take-le, take_at, take-append-drop, get_or-take, append-nil}
use native.Mathlib.Numerals.{unary_clauses}
use Rattle.std.proofs.lemmas.Bool.{eqb-true, eqb-false}
use Rattle.xet_types.specs.Ranges.{IsNumber}
use Rattle.xet_wire.specs.Texts.{IsNumberOf}
use Rattle.xet_wire.specs.Multipart.{twenty_digits}

zeros_value : (z : ℕ) (ds : List ℕ) → digits_value 10 (replicate z 48 ++ ds) ≡ digits_value 10 ds
zeros_value zero ds = refl
zeros_value (suc z) ds = zeros_value z ds

zeros_digits : (z : ℕ) (ds : List ℕ) → AllDigits 10 ds → AllDigits 10 (replicate z 48 ++ ds)
zeros_digits zero ds digits = digits
zeros_digits (suc z) ds digits = (lit< tt, zeros_digits z ds digits)

pub twenty_all : (n : ℕ) → n < 2 ^ 64 → AllDigits 10 (twenty_digits n)
twenty_all n small = zeros_digits (20 - length (decimal n)) (decimal n) (decimal_is_IsNumeral n small).0.1

pub twenty_wide : (n : ℕ) → n < 10 ^ 20 → AllDigits 10 (twenty_digits n)
twenty_wide n fits = zeros_digits (20 - length (decimal n)) (decimal n) (decimal_is_IsNumeral_wide n (omega (arith, fits))).0.1

pub length_twenty : (n : ℕ) → n < 2 ^ 64 → length (twenty_digits n) ≡ 20
length_twenty n small =
    let short : length (decimal n) ≤ 20 = length-decimal-le 20 n (omega arith) (omega (arith, small)) small in
    let zeros : length (replicate {A = ℕ} (20 - length (decimal n)) 48) ≡ 20 - length (decimal n) = length-replicate (20 - length (decimal n)) 48 in
    omega (arith, short, length-append (replicate (20 - length (decimal n)) 48) (decimal n), zeros)

-- digits have no plus
no_plus : (ds : List ℕ) → AllDigits 10 ds → 0 < length ds → get_or ds 0 0 ≢ 43
no_plus ds digits some e = let d = digit_at ds 0 digits some in omega (arith, d, e)

pub no_plus_first : (n : ℕ) (bytes rest : List ℕ) → n < 2 ^ 64 → bytes ≡ twenty_digits n ++ rest → get_or bytes 0 0 ≢ 43
no_plus_first n bytes rest small e plus =
    let long = length_twenty n small in
    let first : get_or (take 20 bytes) 0 0 ≡ get_or bytes 0 0 = get_or-take 20 bytes 0 0 (lit< tt) in
    let front : take 20 bytes ≡ twenty_digits n = ap (λ (t : List ℕ). take 20 t) e ∙ take_at (twenty_digits n) rest 20 long in
    no_plus (twenty_digits n) (twenty_all n small) (omega (arith, long)) (ap (λ (t : List ℕ). get_or t 0 0) (sym front) ∙ first ∙ plus)

pub twenty_number : (n : ℕ) → n < 2 ^ 64 → IsNumberOf (twenty_digits n) n
twenty_number n small =
    let digits = twenty_all n small in
    let long = length_twenty n small in
    let plain : without_leading_plus (twenty_digits n) ≡ twenty_digits n = without_leading_plus_none (twenty_digits n) (no_plus (twenty_digits n) digits (omega (arith, long))) in
    let value : digits_value 10 (twenty_digits n) ≡ n = zeros_value (20 - length (decimal n)) (decimal n) ∙ (decimal_is_IsNumeral n small).1 in
    record {
      numeral = rw (plain, value) ((omega (arith, long), digits), small);
      value = rw (plain, value) refl;
    }

-- digits are zeros and the digits of their number
abbrev pub Padded : List ℕ → Type 0
Padded ds = ds ≡ replicate (length ds - length (decimal (digits_value 10 ds))) 48 ++ decimal (digits_value 10 ds)

no_padding : (ds : List ℕ) → decimal (digits_value 10 ds) ≡ ds → Padded ds
no_padding ds e =
    let none : length ds - length (decimal (digits_value 10 ds)) ≡ 0 = omega (arith, ap length e) in
    rw (none, e) refl

zeros : (z : ℕ) → length (replicate {A = ℕ} z 48) ≡ z
zeros z = length-replicate z 48

one_more : (d : ℕ) (ds : List ℕ) → Padded (d ∷ ds) → Padded (48 ∷ d ∷ ds)
one_more d ds e =
    let L : ℕ = length (decimal (digits_value 10 (d ∷ ds))) in
    let sum : length (d ∷ ds) ≡ (length (d ∷ ds) - L) + L = ap length e ∙ length-append (replicate (length (d ∷ ds) - L) 48) (decimal (digits_value 10 (d ∷ ds))) ∙ ap (λ (n : ℕ). n + L) (zeros (length (d ∷ ds) - L)) in
    let more : length (48 ∷ d ∷ ds) - L ≡ suc (length (d ∷ ds) - L) = omega (arith, sum) in
    subst (λ (z : ℕ). 48 ∷ d ∷ ds ≡ replicate z 48 ++ decimal (digits_value 10 (d ∷ ds))) (sym more) (ap (λ (t : List ℕ). 48 ∷ t) e)

mutual_step : (c d : ℕ) (ds : List ℕ) (v : Bool) → eqb c 48 ≡ v → AllDigits 10 (c ∷ d ∷ ds) → digits_value 10 (c ∷ d ∷ ds) < 2 ^ 64 → (AllDigits 10 (d ∷ ds) → digits_value 10 (d ∷ ds) < 2 ^ 64 → Padded (d ∷ ds)) → Padded (c ∷ d ∷ ds)
mutual_step c d ds true e digits small below =
    let zero : c ≡ 48 = eqb-true c 48 e in
    let same : digits_value 10 (c ∷ d ∷ ds) ≡ digits_value 10 (d ∷ ds) = rw zero refl in
    subst (λ (x : ℕ). Padded (x ∷ d ∷ ds)) (sym zero) (one_more d ds (below digits.1 (subst (λ (n : ℕ). n < 2 ^ 64) same small)))
mutual_step c d ds false e digits small below =
    no_padding (c ∷ d ∷ ds) (decimal-digits_value (numerals_by_value (AllDigits 10) tells_digits) (c ∷ d ∷ ds) digits (omega arith) (λ zero. absurd (eqb-false c 48 e zero)) small)

pub padded_digits : (ds : List ℕ) → AllDigits 10 ds → 0 < length ds → digits_value 10 ds < 2 ^ 64 → Padded ds
padded_digits [] digits some small = absurd (omega (arith, some))
padded_digits (c ∷ []) digits some small = no_padding (c ∷ []) (decimal-digits_value (numerals_by_value (AllDigits 10) tells_digits) (c ∷ []) digits some (λ _. refl) small)
padded_digits (c ∷ d ∷ ds) digits some small = mutual_step c d ds (eqb c 48) refl digits small (λ all low. padded_digits (d ∷ ds) all (omega arith) low)

-- what the first 20 bytes tell
pub at_number : (bytes digits : List ℕ) (r : Option ℕ) → digits ≡ take 20 bytes → 20 ≤ length bytes → get_or bytes 0 0 ≢ 43
    → MatchOption r (¬ IsNumber 64 digits) (λ n. IsNumberOf digits n)
    → MatchOption r ((n : ℕ) (rest : List ℕ) → n < 2 ^ 64 → bytes ≢ twenty_digits n ++ rest) (λ n. (rest : List ℕ) × (bytes ≡ twenty_digits n ++ rest))
at_number bytes digits None is long plain none = λ n rest small e.
    let front : digits ≡ twenty_digits n = is ∙ ap (λ (t : List ℕ). take 20 t) e ∙ take_at (twenty_digits n) rest 20 (length_twenty n small) in
    none (subst (λ (t : List ℕ). IsNumber 64 t) (sym front) (twenty_number n small).numeral)
at_number bytes digits (Some n) is long plain number =
    let long20 : length digits ≡ 20 = ap length is ∙ length-take-le 20 bytes long in
    let first : get_or digits 0 0 ≡ get_or bytes 0 0 = ap (λ (t : List ℕ). get_or t 0 0) is ∙ get_or-take 20 bytes 0 0 (lit< tt) in
    let same : without_leading_plus digits ≡ digits = without_leading_plus_none digits (λ plus. plain (sym first ∙ plus)) in
    let numeral : IsNumeral 10 digits = subst (λ (t : List ℕ). IsNumeral 10 t) same number.numeral.0 in
    let small : digits_value 10 digits < 2 ^ 64 = subst (λ (t : List ℕ). digits_value 10 t < 2 ^ 64) same number.numeral.1 in
    let value : digits_value 10 digits ≡ n = ap (λ (t : List ℕ). digits_value 10 t) (sym same) ∙ sym number.value in
    let padded : Padded digits = padded_digits digits numeral.1 numeral.0 small in
    let is_twenty : digits ≡ twenty_digits n = padded ∙ ap (λ (m : ℕ). replicate (m - length (decimal (digits_value 10 digits))) 48 ++ decimal (digits_value 10 digits)) long20 ∙ ap (λ (m : ℕ). twenty_digits m) value in
    (drop 20 bytes, sym (take-append-drop 20 bytes) ∙ ap (λ (t : List ℕ). t ++ drop 20 bytes) (sym is ∙ is_twenty))

-- bytes that are no text don't begin with a number
pub no_text : (bytes : List ℕ) → ¬ IsUtf8 (take 20 bytes) → (n : ℕ) (rest : List ℕ) → n < 2 ^ 64 → bytes ≢ twenty_digits n ++ rest
no_text bytes none n rest small e =
    let front : take 20 bytes ≡ twenty_digits n = ap (λ (t : List ℕ). take 20 t) e ∙ take_at (twenty_digits n) rest 20 (length_twenty n small) in
    none (subst IsUtf8 (sym front) (IsUtf8-from_ascii (twenty_digits n) (IsAscii-from_digits (twenty_digits n) (twenty_all n small))))

pub too_short : (bytes : List ℕ) → length bytes < 20 → (n : ℕ) (rest : List ℕ) → n < 2 ^ 64 → bytes ≢ twenty_digits n ++ rest
too_short bytes short n rest small e = omega (arith, short, ap length e, length-append (twenty_digits n) rest, length_twenty n small)

-- what `{:020}` writes
pub written_twenty : (n : ℕ) → padded_integral (format_spec 32 0 4 20 (2 ^ 64 - 1)) false [] (decimal n) ≡ twenty_digits n
unfolding padded_integral char_count
written_twenty n = simp unary_clauses (ap (λ (t : List ℕ). replicate (20 - length (decimal n)) 48 ++ t) (append-nil (decimal n)))
