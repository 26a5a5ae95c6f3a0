-- What the words of a script's lines mean.
use Rattle.std.specs.Prelude.{ℕ, ◌+◌, ◌-◌, ◌*◌, Bool, ◌&&◌, nat_lt, nat_le, ◌==◌, nat_eq, List, [], ◌∷◌, length, fold, Option, Some, None, Result, Ok, Err, if◌then◌else◌, codes}
use Rattle.std.specs.List.{list_all, slice_split}
use Rattle.std.specs.Char.{is_ascii_digit}
use Rattle.std.specs.Cmp.Lexicographic.{pointwise}
use Rattle.hex.specs.Hex.{decode_of, decode_sized}
use Rattle.xet_types.specs.declared.range.Range.{Range}
use Rattle.xet_types.specs.declared.range._F.{_F}

-- the second step, if the first has a value
infixl 10 ◌>>=◌
abbrev pub ◌>>=◌ : {A B : Type 0} → Option A → (A → Option B) → Option B
(Some x) >>= f = f x
None >>= f = None

-- the value, if there is no error
abbrev pub ok_of : {A E : Type 0} → Result A E → Option A
ok_of (Ok x) = Some x
ok_of (Err e) = None

-- the parts of a text between separators; a text without a separator is one part
abbrev pub parts_of : ℕ → List ℕ → List (List ℕ)
parts_of separator text = slice_split (λ byte. byte == separator) text

-- the parts of what stands after a separator, if there is one
abbrev pub parts_after : ℕ → Option (List ℕ) → List (List ℕ)
parts_after separator None = []
parts_after separator (Some text) = parts_of separator text

-- whether the word is this text
abbrev pub is_word : List ℕ → List ℕ → Bool
is_word word text = pointwise nat_eq word text

-- the number with one more decimal digit
abbrev pub with_digit : ℕ → ℕ → ℕ
with_digit value digit = value * 10 + (digit - 48)

-- the number that the decimal digits write
abbrev pub value_of : List ℕ → ℕ
value_of digits = fold with_digit 0 digits

-- 1 to 20 decimal digits that write a number below 2 ^ 64
abbrev pub is_number : List ℕ → Bool
is_number word = nat_lt 0 (length word) && (nat_le (length word) 20 && (list_all is_ascii_digit word && nat_lt (value_of word) 18446744073709551616))

abbrev pub number_of : List ℕ → Option ℕ
number_of word = if is_number word then Some (value_of word) else None

-- the same below 2 ^ 32
abbrev pub small_number_of : List ℕ → Option ℕ
small_number_of word = do
  n ← number_of word
  if nat_lt n 4294967296 then Some n else None

-- the 32 bytes of 64 hexadecimal digits, either case
abbrev pub hash_of : List ℕ → Option (List ℕ)
hash_of word = ok_of (decode_sized word 32)

-- `-` for no bytes, or the bytes of an even and nonzero number of hexadecimal digits, either case
abbrev pub octets_of : List ℕ → Option (List ℕ)
octets_of word =
    if is_word word (codes "-") then Some []
    else if length word == 0 then None
    else ok_of (decode_of word)

-- a range of two numbers
abbrev pub between : List ℕ → List ℕ → Option (Option (Range ℕ _F))
between start end = do
  s ← number_of start
  e ← number_of end
  Some (Some (record { start = s; end = e; _marker = record {} }))

abbrev pub range_in : List (List ℕ) → Option (Option (Range ℕ _F))
range_in (start ∷ end ∷ []) = between start end
range_in others = None

-- `all`, or two numbers with `-` between them
abbrev pub range_of : List ℕ → Option (Option (Range ℕ _F))
range_of word = if is_word word (codes "all") then Some None else range_in (parts_of 45 word)
