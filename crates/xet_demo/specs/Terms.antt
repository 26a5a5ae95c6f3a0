-- What the words of a generated file's terms mean.
use Rattle.std.specs.Prelude.{ℕ, List, [], ◌∷◌, Option, Some, None}
use Rattle.xet_generated.specs.Terms.{Term}
use Rattle.xet_demo.specs.Words.{◌>>=◌, parts_of, number_of}

abbrev pub numbers_between : List ℕ → List ℕ → Option (ℕ × ℕ)
numbers_between start end = do
  s ← number_of start
  e ← number_of end
  Some (s, e)

abbrev pub numbers_in : List (List ℕ) → Option (ℕ × ℕ)
numbers_in (start ∷ end ∷ []) = numbers_between start end
numbers_in others = None

-- two numbers with `-` between them: the first chunk, and the one behind the last
abbrev pub chunks_of : List ℕ → Option (ℕ × ℕ)
chunks_of word = numbers_in (parts_of 45 word)

abbrev pub term_between : List ℕ → List ℕ → Option Term
term_between seed range = do
  s ← number_of seed
  r ← chunks_of range
  Some (s, r)

abbrev pub term_in : List (List ℕ) → Option Term
term_in (seed ∷ range ∷ []) = term_between seed range
term_in others = None

-- `SEED:S-E`
abbrev pub term_of : List ℕ → Option Term
term_of word = term_in (parts_of 58 word)

-- the term of each word, if each has one
abbrev pub terms_of : List (List ℕ) → Option (List Term)
terms_of [] = Some []
terms_of (word ∷ words) = do
  t ← term_of word
  ts ← terms_of words
  Some (t ∷ ts)
