-- A xorb without its bytes.
use Rattle.std.specs.Prelude.{ℕ, List}

-- the hashes and the lengths of its chunks
pub record Xorb : Type 0 where
  pub hashes : List (List ℕ)
  pub lengths : List ℕ
