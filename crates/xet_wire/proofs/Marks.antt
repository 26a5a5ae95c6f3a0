-- Texts that are cut at a mark: one way at most, and which texts have no mark.
use Rattle.std.proofs.Common.{◌≡◌, ◌≢◌, ◌⊎◌, ℕ, suc, ◌<◌, Bool, true, false, cond, eqb, List, [], ◌∷◌, ◌++◌, get_or, drop, inl, inr, refl, sym, ap, ◌∙◌, arith, subst, lit<}
use Rattle.std.specs.List.{Contains}
use Rattle.std.proofs.lemmas.List.Elements.{All-cons, All-nil, All-from_get_or}
use Rattle.std.proofs.lemmas.List.{append_cancel_right}
use Rattle.std.proofs.lemmas.Bool.{eqb-true}
use Rattle.std.specs.Str.Parse.{AllDigits}
use Rattle.std.proofs.lemmas.Str.Parse.{digit_at}
use Rattle.hex.specs.Hex.{is_hex_digit}
use Rattle.hex.proofs.HexLemmas.{IsOk-decode_sized}
use Rattle.xet_types.specs.Keys.{IsCutAtLast}
use Rattle.xet_types.specs.Ranges.{IsNumber}
use Rattle.xet_types.proofs.Cuts.{cut_after}
use Rattle.xet_wire.specs.Texts.{Lacks, IsCutAtFirst, AreFields, IsHashOf, IsNumberOf, IsHashThen, IsNumberThen}

-- the mark stands between the two parts
pub mark_there : (c : ℕ) (before after : List ℕ) → Contains (before ++ c ∷ after) c
mark_there c [] after = (0, omega arith, refl)
mark_there c (b ∷ before) after =
    let there = mark_there c before after in
    (suc there.0, omega (arith, there.1), there.2)

pub Lacks-tail : (c b : ℕ) (text : List ℕ) → Lacks c (b ∷ text) → Lacks c text
Lacks-tail c b text lacks = λ k d lt. lacks (suc k) d (omega (arith, lt))

pub Lacks-head : (c b : ℕ) (text : List ℕ) → Lacks c (b ∷ text) → b ≢ c
Lacks-head c b text lacks = lacks 0 0 (omega arith)

-- a text that lacks the mark doesn't hold it
pub lacks_none : (c : ℕ) (text : List ℕ) → Lacks c text → ¬ Contains text c
lacks_none c text lacks there = lacks there.0 c there.1 there.2

-- the first mark cuts a text in one way
pub same_cut : (c : ℕ) (b a d e : List ℕ) → Lacks c b → Lacks c d → b ++ c ∷ a ≡ d ++ c ∷ e → (b ≡ d) × (a ≡ e)
same_cut c [] a [] e f g h = (refl, cc)
same_cut c [] a (x ∷ d) e f g h = absurd (Lacks-head c x d g (cc))
same_cut c (x ∷ b) a [] e f g h = absurd (Lacks-head c x b f (cc))
same_cut c (x ∷ b) a (y ∷ d) e f g h =
    let rest : b ++ c ∷ a ≡ d ++ c ∷ e = cc in
    let same = same_cut c b a d e (Lacks-tail c x b f) (Lacks-tail c y d g) rest in
    let head : x ≡ y = cc in
    (cc, same.1)

pub cut_first : (c : ℕ) (text b a d e : List ℕ) → IsCutAtFirst c text b a → Lacks c d → text ≡ d ++ c ∷ e → (b ≡ d) × (a ≡ e)
cut_first c text b a d e cut lacks parts = same_cut c b a d e cut.first lacks (sym cut.parts ∙ parts)

-- and so does the last one
pub cut_last : (c : ℕ) (text b a d e : List ℕ) → IsCutAtLast c text b a → Lacks c e → text ≡ d ++ c ∷ e → (b ≡ d) × (a ≡ e)
cut_last c text b a d e cut lacks parts =
    let after : a ≡ e = cut_after c text b a d e cut (record { parts = parts; last = lacks }) in
    let front : b ++ c ∷ a ≡ d ++ c ∷ a = sym cut.parts ∙ parts ∙ ap (λ (t : List ℕ). d ++ c ∷ t) (sym after) in
    (append_cancel_right b d (c ∷ a) front, after)

-- what no digit of a number is
abbrev pub IsMark : ℕ → Type 0
IsMark c = (c ≢ 43) × ((c < 48) ⊎ (57 < c))

digit_lacks : (c : ℕ) (ds : List ℕ) → ((c < 48) ⊎ (57 < c)) → AllDigits 10 ds → Lacks c ds
digit_lacks c ds (inl low) digits = All-from_get_or (λ b. b ≢ c) ds 0 (λ i lt e. let d = digit_at ds i digits lt in omega (arith, d))
digit_lacks c ds (inr high) digits = All-from_get_or (λ b. b ≢ c) ds 0 (λ i lt e. let d = digit_at ds i digits lt in omega (arith, d))

plus_lacks : (c b : ℕ) (text : List ℕ) (v : Bool) → eqb b 43 ≡ v → IsMark c → AllDigits 10 (drop (cond v 1 0) (b ∷ text)) → Lacks c (b ∷ text)
plus_lacks c b text true e mark digits =
    let plus : b ≡ 43 = eqb-true b 43 e in
    All-cons (λ x. x ≢ c) b text (λ is. mark.0 (sym is ∙ plus)) (digit_lacks c text mark.1 digits)
plus_lacks c b text false e mark digits = digit_lacks c (b ∷ text) mark.1 digits

-- a number lacks marks
pub number_lacks : (c : ℕ) (text : List ℕ) → IsMark c → IsNumber 64 text → Lacks c text
number_lacks c [] mark n = All-nil (λ b. b ≢ c)
number_lacks c (b ∷ text) mark n = plus_lacks c b text (eqb b 43) refl mark n.0.1

colon_no_digit : (b : ℕ) → is_hex_digit b ≡ true → b ≢ 58
colon_no_digit b digit is =
    let at_colon : is_hex_digit 58 ≡ true = subst (λ (x : ℕ). is_hex_digit x ≡ true) is digit in
    cc

-- a hash lacks colons
pub hash_lacks : (text hash : List ℕ) → IsHashOf text hash → Lacks 58 text
hash_lacks text hash is =
    let digits = (IsOk-decode_sized text 32).0 (rw is refl) in
    λ k d lt e. colon_no_digit (get_or text k d) (digits.1 k d lt) e

-- a text without the mark isn't cut
pub unmarked : (c : ℕ) (text before after : List ℕ) → ¬ Contains text c → text ≡ before ++ c ∷ after → ⊥
unmarked c text before after none parts = none (rw parts (mark_there c before after))

-- fields are cut at the last colon, and the first three at the last of theirs
pub fields_cut : (text a b c d : List ℕ) → AreFields text a b c d → IsCutAtLast 58 text (a ++ 58 ∷ b ++ 58 ∷ c) d
fields_cut text a b c d f = record {
  parts = f.parts;
  last = f.fourth;
}

three_cut : (a b c : List ℕ) → Lacks 58 c → IsCutAtLast 58 (a ++ 58 ∷ b ++ 58 ∷ c) (a ++ 58 ∷ b) c
three_cut a b c lacks = record { parts = refl; last = lacks }

-- what the cuts of fields give
pub cut_fields : (text a b c d f e : List ℕ) → AreFields text a b c d → IsCutAtLast 58 text f e → (f ≡ a ++ 58 ∷ b ++ 58 ∷ c) × (e ≡ d)
cut_fields text a b c d f e are cut = cut_last 58 text f e (a ++ 58 ∷ b ++ 58 ∷ c) d cut are.fourth (fields_cut text a b c d are).parts

pub cut_three : (text a b c f e : List ℕ) → text ≡ a ++ 58 ∷ b ++ 58 ∷ c → Lacks 58 c → IsCutAtLast 58 text f e → (f ≡ a ++ 58 ∷ b) × (e ≡ c)
cut_three text a b c f e parts lacks cut = cut_last 58 text f e (a ++ 58 ∷ b) c cut lacks (parts ∙ (three_cut a b c lacks).parts)

-- fields are cut in one way
pub fields_once : (text a b c d a' b' c' d' : List ℕ) → AreFields text a b c d → AreFields text a' b' c' d' → (a ≡ a') × (b ≡ b') × (c ≡ c') × (d ≡ d')
fields_once text a b c d a' b' c' d' f g =
    let four = cut_fields text a' b' c' d' (a ++ 58 ∷ b ++ 58 ∷ c) d g (fields_cut text a b c d f) in
    let three = cut_three (a ++ 58 ∷ b ++ 58 ∷ c) a' b' c' (a ++ 58 ∷ b) c four.0 g.third (three_cut a b c f.third) in
    let two = cut_last 58 (a ++ 58 ∷ b) a b a' b' (record { parts = refl; last = f.second }) g.second three.0 in
    (two.0, two.1, three.1, four.1)

-- a hash before a colon, and a number, are read in one way
pub hash_first : (text b a hash rest : List ℕ) → IsCutAtFirst 58 text b a → IsHashThen text hash rest → IsHashOf b hash × (a ≡ rest)
hash_first text b a hash rest cut is =
    let same = cut_first 58 text b a is.digits rest cut (hash_lacks is.digits hash is.is_hash) is.parts in
    (rw same.0 is.is_hash, same.1)

pub differs : (n m : ℕ) → n < m → m ≢ n
differs n m lt e = absurd (omega (arith, e))

pub colon : IsMark 58
colon = (differs 43 58 (lit< tt), inr (lit< tt))

pub comma : IsMark 44
comma = (differs 43 44 (lit< tt), inl (lit< tt))

pub number_first : (text b a : List ℕ) (n : ℕ) (rest : List ℕ) → IsCutAtFirst 58 text b a → IsNumberThen text n rest → IsNumberOf b n × (a ≡ rest)
number_first text b a n rest cut is =
    let same = cut_first 58 text b a is.digits rest cut (number_lacks 58 is.digits colon is.is_number.numeral) is.parts in
    (rw same.0 is.is_number, same.1)

-- three cuts at the last colon give fields
pub fields_joined : (text three two a b c d : List ℕ) → IsCutAtLast 58 text three d → IsCutAtLast 58 three two c → IsCutAtLast 58 two a b → AreFields text a b c d
fields_joined text three two a b c d last second first = record {
  parts =
      let two_parts : three ≡ a ++ 58 ∷ b ++ 58 ∷ c = second.parts ∙ ap (λ (t : List ℕ). t ++ 58 ∷ c) first.parts in
      last.parts ∙ ap (λ (t : List ℕ). t ++ 58 ∷ d) two_parts;
  second = first.last;
  third = second.last;
  fourth = last.last;
}

-- fields are refused where a front has no colon
pub no_fields : (text : List ℕ) → ¬ Contains text 58 → (a b c d : List ℕ) → ¬ AreFields text a b c d
no_fields text none a b c d are = unmarked 58 text (a ++ 58 ∷ b ++ 58 ∷ c) d none (fields_cut text a b c d are).parts

pub no_three : (text three last : List ℕ) → IsCutAtLast 58 text three last → ¬ Contains three 58 → (a b c d : List ℕ) → ¬ AreFields text a b c d
no_three text three last cut none a b c d are = unmarked 58 three (a ++ 58 ∷ b) c none ((cut_fields text a b c d three last are cut).0 ∙ (three_cut a b c are.third).parts)

pub no_two : (text three two third last : List ℕ) → IsCutAtLast 58 text three last → IsCutAtLast 58 three two third → ¬ Contains two 58 → (a b c d : List ℕ) → ¬ AreFields text a b c d
no_two text three two third last cut cut' none a b c d are =
    let first = cut_fields text a b c d three last are cut in
    unmarked 58 two a b none (cut_three three a b c two third first.0 are.third cut').0

-- a hash or a number before a colon is refused where there is no colon, or where what stands before it is none
pub no_hash_then : (text : List ℕ) → ¬ Contains text 58 → (hash rest : List ℕ) → ¬ IsHashThen text hash rest
no_hash_then text none hash rest is = unmarked 58 text is.digits rest none is.parts

pub no_hash : (text b a : List ℕ) → IsCutAtFirst 58 text b a → ((h : List ℕ) → IsHashOf b h → ⊥) → (hash rest : List ℕ) → ¬ IsHashThen text hash rest
no_hash text b a cut none hash rest is = none hash (hash_first text b a hash rest cut is).0

pub no_number_then : (text : List ℕ) → ¬ Contains text 58 → (n : ℕ) (rest : List ℕ) → ¬ IsNumberThen text n rest
no_number_then text none n rest is = unmarked 58 text is.digits rest none is.parts

pub no_number : (text b a : List ℕ) → IsCutAtFirst 58 text b a → ¬ IsNumber 64 b → (n : ℕ) (rest : List ℕ) → ¬ IsNumberThen text n rest
no_number text b a cut none n rest is = none (number_first text b a n rest cut is).0.numeral
