-- Numbers by their digits.
use Rattle.std.proofs.Common.{ℕ, ◌^◌, ◌<◌, ◌≤◌, arith}
use Rattle.std.proofs.Math.Nat.{pow-le-pow_right}

-- a number of at most 18 digits, behind which one more fits
pub few_digits : (n digits : ℕ) → n < 10 ^ digits → digits < 19 → n < 10 ^ 18
few_digits n digits small few = let le : 10 ^ digits ≤ 10 ^ 18 = pow-le-pow_right {n = 10} (omega arith) {i = digits} {j = 18} (omega arith) in omega (arith, small, le)
