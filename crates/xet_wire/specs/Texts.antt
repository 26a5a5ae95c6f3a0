-- Texts: where they are cut, numbers and lists of ranges in them.
use Rattle.std.specs.Prelude.{◌≡◌, ◌≢◌, ◌==◌, ◌<◌, ◌^◌, ◌++◌, ◌∷◌, [], ℕ, zero, suc, List, Result, Ok, Err}
use Rattle.std.specs.Global.{Vec}
use Rattle.std.specs.List.{All, slice_split}
use Rattle.hex.specs.Hex.{decode_sized}
use Rattle.xet_types.specs.declared.error.ClientError.{ClientError}
use Rattle.xet_types.specs.declared.error.ClientError.TheVariants.{InvalidArguments, OutOfMemory}
use Rattle.xet_types.specs.declared.range.Range.{Range}
use Rattle.xet_types.specs.Ranges.{IsNumber, number_value, range_text, ReadsRange}

-- c doesn't stand in the text
abbrev pub Lacks : ℕ → List ℕ → Type 0
Lacks c text = All (λ b. b ≢ c) text

-- the text is cut in two at its first c
pub record IsCutAtFirst (c : ℕ) (text before after : List ℕ) : Type 0 where
  pub parts : text ≡ before ++ c ∷ after
  pub first : Lacks c before

-- the text is four fields with colons between them, cut at its last three
pub record AreFields (text a b c d : List ℕ) : Type 0 where
  pub parts : text ≡ a ++ 58 ∷ b ++ 58 ∷ c ++ 58 ∷ d
  pub second : Lacks 58 b
  pub third : Lacks 58 c
  pub fourth : Lacks 58 d

-- the text is a number of 64 bits as Rust's `from_str` reads one: decimal digits, after a plus or none
pub record IsNumberOf (text : List ℕ) (n : ℕ) : Type 0 where
  pub numeral : IsNumber 64 text
  pub value : n ≡ number_value text

-- the text is the 64 hexadecimal digits of a hash, of either case
abbrev pub IsHashOf : List ℕ → List ℕ → Type 0
IsHashOf text hash = decode_sized text 32 ≡ Ok hash

-- the text is the digits of a hash, a colon, and the rest
pub record IsHashThen (text hash rest : List ℕ) : Type 0 where
  pub digits : List ℕ
  pub parts : text ≡ digits ++ 58 ∷ rest
  pub is_hash : IsHashOf digits hash

-- the text is a number, a colon, and the rest
pub record IsNumberThen (text : List ℕ) (n : ℕ) (rest : List ℕ) : Type 0 where
  pub digits : List ℕ
  pub parts : text ≡ digits ++ 58 ∷ rest
  pub is_number : IsNumberOf digits n

-- the text is a range `S-E` of two numbers of 64 bits
abbrev pub IsRangeOf : {K : Type 0} → List ℕ → Range ℕ K → Type 0
IsRangeOf text r = ReadsRange 64 text (Ok r)

-- both ends of a range fit 64 bits
abbrev pub Fits64 : {K : Type 0} → Range ℕ K → Type 0
Fits64 r = (r.start < 2 ^ 64) × (r.end < 2 ^ 64)

-- the pieces of a text between its commas
abbrev pub pieces_of : List ℕ → List (List ℕ)
pieces_of text = slice_split (λ b. b == 44) text

-- these pieces are these ranges, in order; empty pieces are passed over
abbrev pub AreRanges : {K : Type 0} → List (List ℕ) → List (Range ℕ K) → Type 0
AreRanges [] [] = Unit {0}
AreRanges [] (r ∷ rs) = ⊥
AreRanges ([] ∷ pieces) rs = AreRanges pieces rs
AreRanges ((b ∷ piece) ∷ pieces) [] = ⊥
AreRanges ((b ∷ piece) ∷ pieces) (r ∷ rs) = IsRangeOf (b ∷ piece) r × AreRanges pieces rs

-- the text lists these ranges, between commas
abbrev pub ListsRanges : {K : Type 0} → List ℕ → List (Range ℕ K) → Type 0
ListsRanges text rs = AreRanges (pieces_of text) rs

-- the list gains the range that a piece is; an empty piece is passed over
abbrev pub Gains : {K : Type 0} → List ℕ → List (Range ℕ K) → List (Range ℕ K) → Type 0
Gains [] old new = new ≡ old
Gains {K} (b ∷ piece) old new = (r : Range ℕ K) × IsRangeOf (b ∷ piece) r × (new ≡ old ++ r ∷ [])

-- a piece that isn't empty is no range
abbrev pub IsNoRange : (K : Type 0) → List ℕ → Type 0
IsNoRange K [] = ⊥
IsNoRange K (b ∷ piece) = (r : Range ℕ K) → ¬ IsRangeOf (b ∷ piece) r

-- what adding the range that a piece is answers
abbrev pub AddsPiece : {K : Type 0} → List ℕ → List (Range ℕ K) → List (Range ℕ K) → Result Unit ClientError → Type 0
AddsPiece piece old new (Ok _) = Gains piece old new
AddsPiece {K} piece old new (Err InvalidArguments) = IsNoRange K piece
AddsPiece piece old new (Err OutOfMemory) = Unit {0}
AddsPiece piece old new (Err _) = ⊥

-- what reading a list of ranges answers
abbrev pub ReadsRanges : {K : Type 0} → List ℕ → Result (Vec (Range ℕ K)) ClientError → Type 0
ReadsRanges text (Ok rs) = ListsRanges text rs.items
ReadsRanges {K} text (Err InvalidArguments) = (rs : List (Range ℕ K)) → ¬ ListsRanges text rs
ReadsRanges text (Err OutOfMemory) = Unit {0}
ReadsRanges text (Err _) = ⊥

-- the comma before a range, but for the first one
abbrev pub comma_before : ℕ → List ℕ
comma_before zero = []
comma_before (suc n) = 44 ∷ []

-- ranges of which the first is the n-th of a list, with a comma before each but the list's first
abbrev pub ranges_text_from : {K : Type 0} → ℕ → List (Range ℕ K) → List ℕ
ranges_text_from n [] = []
ranges_text_from n (r ∷ rs) = comma_before n ++ range_text r ++ ranges_text_from (suc n) rs

-- ranges, with commas between them
abbrev pub ranges_text : {K : Type 0} → List (Range ℕ K) → List ℕ
ranges_text rs = ranges_text_from 0 rs
