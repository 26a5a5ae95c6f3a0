-- A walk through bytes in pieces.
use Rattle.std.specs.Prelude.{◌≡◌, ℕ, ◌+◌, ◌<◌, List, ◌++◌, length, take, drop}
use Rattle.std.specs.List.{concat}

-- how many pieces are left, and their bytes joined
pub record Walking : Type 0 where
  pub count : ℕ
  pub bytes : List ℕ

-- pieces, and behind them chunks, less their first bytes, and up to so many
abbrev pub walking : List (List ℕ) → List (List ℕ) → ℕ → ℕ → Walking
walking pieces chunks skip left = record { count = length pieces + length chunks; bytes = concat pieces ++ take left (drop skip (concat chunks)) }

-- the next piece is at the front of the bytes, and what is behind it is left
pub record IsNext (old : Walking) (piece : List ℕ) (new : Walking) : Type 0 where
  pub bytes : old.bytes ≡ piece ++ new.bytes
  pub fewer : new.count < old.count
