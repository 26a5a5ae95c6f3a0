-- A pair of hexadecimal digits, and the byte that is computed of their values.
use Rattle.std.proofs.Common.{◌≡◌, ℕ, ◌+◌, ◌*◌, ◌%◌, ◌<◌, Some, Ok, Result, refl, ap, ◌∙◌, arith}
use Rattle.hex.specs.Hex.{hex_digit_value, digit_or_error, value_at, pair_value}
use Rattle.hex.specs.declared.error.FromHexError.{FromHexError}

pub pair_computed : (a b high low at : ℕ) → high < 16 → low < 16 → hex_digit_value a ≡ Some high → hex_digit_value b ≡ Some low → pair_value a b at ≡ Ok ((high * 16 % 256 + low) % 256)
pair_computed a b high low at h l first second =
    let one : value_at a at ≡ Ok high = ap (digit_or_error a at) first in
    let two : value_at b (at + 1) ≡ Ok low = ap (digit_or_error b (at + 1)) second in
    let byte : high * 16 + low ≡ (high * 16 % 256 + low) % 256 = omega arith in
    let both : pair_value a b at ≡ Ok (high * 16 + low) = rw (one, two) refl in
    both ∙ ap (λ (n : ℕ). let r : Result ℕ FromHexError = Ok n in r) byte
