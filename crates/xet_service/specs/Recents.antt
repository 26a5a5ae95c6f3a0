-- Values by number, one of which is at hand.
use Rattle.std.specs.Prelude.{◌≡◌, ◌==◌, ℕ, Option, Some, None, Bool, false}
use Rattle.std.specs.Ordering.{nat_cmp}
use Rattle.std.specs.FinMap.{FinMap, get, insert}

-- a value and its number, where one is at hand
abbrev pub AtHand : Type 0 → Type 0
AtHand V = Option (ℕ × V)

-- whether one is at hand, and its number is this one
abbrev pub is_at : {V : Type 0} → AtHand V → ℕ → Bool
is_at None number = false
is_at (Some p) number = p.0 == number

-- the value at hand
abbrev pub value_of : {V : Type 0} → AtHand V → Option V
value_of None = None
value_of (Some p) = Some p.1

-- the values of a map, and the one at hand
abbrev pub with_one : {V : Type 0} → AtHand V → FinMap nat_cmp V → FinMap nat_cmp V
with_one None others = others
with_one (Some p) others = insert others p.0 p.1

-- the map has no value at the number of the one at hand
abbrev pub IsApart : {V : Type 0} → AtHand V → FinMap nat_cmp V → Type 0
IsApart None others = Unit {0}
IsApart (Some p) others = get others p.0 ≡ None
