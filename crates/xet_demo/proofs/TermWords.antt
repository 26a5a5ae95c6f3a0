-- The terms of words, one by one.
use Rattle.std.proofs.Common.{◌≡◌, ℕ, ◌<◌, List, [], ◌∷◌, ◌++◌, length, Option, Some, None, refl, ap, append_assoc, arith}
use Rattle.xet_generated.specs.Terms.{Term}
use Rattle.xet_demo.specs.Words.{◌>>=◌, parts_of}
use Rattle.xet_demo.specs.Terms.{numbers_in, chunks_of, term_in, term_of, terms_of}
use Rattle.xet_demo.proofs.Cuts.{some_part}

-- terms, and those of the words behind theirs
abbrev pub behind : List Term → Option (List Term) → Option (List Term)
behind ts None = None
behind ts (Some us) = Some (ts ++ us)

pub behind_none : (o : Option (List Term)) → behind [] o ≡ o
behind_none None = refl
behind_none (Some us) = refl

-- with the term of one more word
pub behind_one : (ts : List Term) (word : List ℕ) (words : List (List ℕ)) (t : Term) → term_of word ≡ Some t → behind (ts ++ t ∷ []) (terms_of words) ≡ behind ts (terms_of (word ∷ words))
behind_one ts word words t is = rw is (one (terms_of words))
  where
    one : (o : Option (List Term)) → behind (ts ++ t ∷ []) o ≡ behind ts (o >>= (λ us. Some (t ∷ us)))
    one None = refl
    one (Some us) = ap (λ (vs : List Term). Some vs) (append_assoc ts (t ∷ []) us)

-- a word that is no term
pub behind_bad : (ts : List Term) (word : List ℕ) (words : List (List ℕ)) → term_of word ≡ None → behind ts (terms_of (word ∷ words)) ≡ None
behind_bad ts word words is = rw is refl

no_numbers : (a b : List ℕ) (parts : List (List ℕ)) → 0 < length parts → numbers_in (a ∷ b ∷ parts) ≡ None
no_numbers a b [] some = absurd (omega arith)
no_numbers a b (c ∷ parts) some = refl

-- chunks have one separator
pub no_chunks : (word a b rest : List ℕ) → parts_of 45 word ≡ a ∷ b ∷ parts_of 45 rest → chunks_of word ≡ None
no_chunks word a b rest parts = rw parts (no_numbers a b (parts_of 45 rest) (some_part 45 rest))

no_pair : (a b : List ℕ) (parts : List (List ℕ)) → 0 < length parts → term_in (a ∷ b ∷ parts) ≡ None
no_pair a b [] some = absurd (omega arith)
no_pair a b (c ∷ parts) some = refl

-- and so has a term
pub no_term : (word a b rest : List ℕ) → parts_of 58 word ≡ a ∷ b ∷ parts_of 58 rest → term_of word ≡ None
no_term word a b rest parts = rw parts (no_pair a b (parts_of 58 rest) (some_part 58 rest))
