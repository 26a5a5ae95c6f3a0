-- A list of one word.
use Rattle.std.proofs.Common.{◌≡◌, ℕ, ◌≤◌, ◌<◌, List, [], ◌∷◌, map, get_or, length, sym, ap, arith}

pub only_word : {A : Type 0} (f : A → List ℕ) (words : List A) (w : A) → 1 ≤ length words → length words < 2 → w ≡ get_or words 0 w → map f words ≡ f w ∷ []
only_word f [] w lo hi is = absurd (omega arith)
only_word f (v ∷ []) w lo hi is = ap (λ u. f u ∷ []) (sym is)
only_word f (v ∷ u ∷ ws) w lo hi is = absurd (omega arith)

pub head_is : (a b : List ℕ) → ◌≡◌ {A = List (List ℕ)} (a ∷ []) (b ∷ []) → a ≡ b
head_is a b e = cc
