-- Texts that are cut at a separator.
use denote.Ref.{Bor}
use Rattle.std.specs.Prelude.{codes}
use Rattle.std.proofs.Common.{Option, ◌≡◌, ℕ, ◌+◌, ◌-◌, ◌<◌, Bool, true, false, eqb, List, [], ◌∷◌, ◌++◌, length, get_or, take, drop, Some, None, refl, sym, ap, ◌∙◌, arith}
use Rattle.std.specs.List.{All}
use Rattle.std.proofs.lemmas.List.{take-append-drop, take_all, drop_more, length-take, length-drop, get_or-take}
use Rattle.std.proofs.lemmas.List.Elements.{All-from_get_or}
use Rattle.std.proofs.lemmas.List.Splits.{slice_split_none, slice_split_at, length-slice_split}
use Rattle.memchr.specs.Find.{IsFirstByte, is_byte}
use Rattle.std.specs.Option.{option_copied}
use Rattle.xet_demo.specs.Words.{parts_of, parts_after, is_word, range_in, range_of}
use Rattle.xet_demo.specs.Lines.{words_from}

not_true : (b : Bool) → (b ≡ true → ⊥) → b ≡ false
not_true true h = absurd (h refl)
not_true false h = refl

-- the front before the first separator, and what stands after it
pub parts_found : (separator : ℕ) (text : List ℕ) (at : ℕ) → IsFirstByte (is_byte separator) text (Some at) → parts_of separator text ≡ take at text ∷ parts_of separator (drop (at + 1) text)
parts_found separator text at found =
    let inside : at < length text = found.0.high in
    let other : All (λ byte. eqb byte separator ≡ false) (take at text) =
    All-from_get_or (λ byte. eqb byte separator ≡ false) (take at text) 0 (λ i lt.
    let below : i < at = omega (arith, lt, length-take at text) in
    rw get_or-take (not_true (eqb (get_or text i 0) separator) (found.0.before i (omega arith) below))) in
    ap (λ (bytes : List ℕ). parts_of separator bytes) (sym (take-append-drop at text) ∙ ap (λ (bytes : List ℕ). take at text ++ bytes) (drop_more text at 0 inside))
    ∙ slice_split_at (λ byte. eqb byte separator) (take at text) (get_or text at 0) (drop (at + 1) text) other found.1

pub parts_none : (separator : ℕ) (text : List ℕ) → IsFirstByte (is_byte separator) text None → parts_of separator text ≡ text ∷ []
parts_none separator text none =
    slice_split_none (λ byte. eqb byte separator) text
    (All-from_get_or (λ byte. eqb byte separator ≡ false) text 0 (λ i lt. not_true (eqb (get_or text i 0) separator) (none i (omega arith) lt)))

-- what a slice from a place to the end holds
pub to_the_end : (text : List ℕ) (from : ℕ) → take (length text - from) (drop from text) ≡ drop from text
to_the_end text from = take_all (length text - from) (drop from text) (omega (arith, length-drop from text))

-- a text has at least one part
pub some_part : (separator : ℕ) (text : List ℕ) → 0 < length (parts_of separator text)
some_part separator text = omega (arith, length-slice_split (λ byte. eqb byte separator) text)

-- two cuts, one after the other
pub cut_twice : (separator : ℕ) (text a b : List ℕ) (r q : Option (Bor (List ℕ))) (x y : Bor (List ℕ)) → parts_of separator text ≡ a ∷ parts_after separator (option_copied r) → r ≡ Some x → parts_of separator x.now ≡ b ∷ parts_after separator (option_copied q) → q ≡ Some y → parts_of separator text ≡ a ∷ b ∷ parts_of separator y.now
cut_twice separator text a b r q x y first is second is' =
    first ∙ ap (λ (o : Option (Bor (List ℕ))). a ∷ parts_after separator (option_copied o)) is
    ∙ ap (λ (parts : List (List ℕ)). a ∷ parts) (second ∙ ap (λ (o : Option (Bor (List ℕ))). b ∷ parts_after separator (option_copied o)) is')

three_parts : (a b : List ℕ) (parts : List (List ℕ)) → 0 < length parts → range_in (a ∷ b ∷ parts) ≡ None
three_parts a b [] some = absurd (omega arith)
three_parts a b (c ∷ parts) some = refl

four_words : (command a b c : List ℕ) (parts : List (List ℕ)) → 0 < length parts → words_from command (a ∷ b ∷ c ∷ parts) ≡ None
four_words command a b c [] some = absurd (omega arith)
four_words command a b c (d ∷ parts) some = refl

-- a range has one separator
pub no_range : (word a b rest : List ℕ) → is_word word (codes "all") ≡ false → parts_of 45 word ≡ a ∷ b ∷ parts_of 45 rest → range_of word ≡ None
no_range word a b rest other parts = rw (other, parts) (three_parts a b (parts_of 45 rest) (some_part 45 rest))

-- no command has four words
pub no_command : (command a b c words rest : List ℕ) → parts_of 32 words ≡ c ∷ parts_of 32 rest → words_from command (a ∷ b ∷ parts_of 32 words) ≡ None
no_command command a b c words rest parts = rw parts (four_words command a b c (parts_of 32 rest) (some_part 32 rest))
