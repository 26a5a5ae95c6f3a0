-- Range headers: a value means one thing at most, and what is written means its range.
use Rattle.std.specs.Prelude.{decimal, codes}
use Rattle.std.proofs.Common.{◌≡◌, ◌≢◌, ◌↔◌, inl, ℕ, ◌+◌, ◌<◌, ◌^◌, Bool, true, false, cond, eqb, List, [], ◌∷◌, ◌++◌, drop, refl, sym, ap, ◌∙◌, arith, subst, append_assoc, lit<, Option, MatchOption, Some, None}
use Rattle.std.specs.List.{Contains}
use Rattle.std.specs.Str.{IsAscii, IsUtf8}
use Rattle.std.specs.Str.Parse.{AllDigits}
use Rattle.std.proofs.lemmas.Fmt.{IsAscii-from_digits}
use Rattle.std.proofs.lemmas.Str.{IsUtf8-from_ascii, IsAscii-append}
use Rattle.std.proofs.lemmas.List.{append-nil, append_cancel_left}
use Rattle.std.proofs.lemmas.List.Elements.{All-nil}
use Rattle.std.proofs.lemmas.Bool.{eqb-true}
use Rattle.xet_types.specs.declared.range.Range.{Range}
use Rattle.xet_types.specs.declared.range._H.{_H}
use Rattle.xet_types.specs.Ranges.{IsNumber, interval, range_text}
use Rattle.xet_wire.specs.declared.header.FileRangeVariant.{FileRangeVariant}
use Rattle.xet_wire.specs.declared.header.FileRangeVariant.TheVariants.{Normal, OpenRHS, Suffix}
use Rattle.xet_wire.specs.Texts.{Lacks, Fits64, IsCutAtFirst, ranges_text_from}
use Rattle.xet_wire.specs.Headers.{Asks, Means, header_text, IsOne}
use Rattle.xet_wire.proofs.Marks.{same_cut, cut_first, unmarked, number_lacks, differs, comma, lacks_none, mark_there}
use Rattle.xet_wire.proofs.Written.{number_reads, AllFit, dash_lacks}
use Rattle.xet_wire.proofs.LinkTexts.{same_number, same_range}

-- texts of numbers are ASCII
plus_ascii : (b : ℕ) (text : List ℕ) (v : Bool) → eqb b 43 ≡ v → AllDigits 10 (drop (cond v 1 0) (b ∷ text)) → IsAscii (b ∷ text)
plus_ascii b text true e digits =
    let plus : b ≡ 43 = eqb-true b 43 e in
    IsAscii-append (b ∷ []) text (rw plus one) (IsAscii-from_digits text digits)
  where
    one : IsAscii (43 ∷ [])
    one = search arith
plus_ascii b text false e digits = IsAscii-from_digits (b ∷ text) digits

pub number_ascii : (text : List ℕ) → IsNumber 64 text → IsAscii text
number_ascii [] n = search arith
number_ascii (b ∷ text) n = plus_ascii b text (eqb b 43) refl n.0.1

no_bytes_ascii : (text : List ℕ) → text ≡ [] → IsAscii text
no_bytes_ascii text none = rw none empty
  where
    empty : IsAscii []
    empty = search arith

sides_ascii : (start end : List ℕ) (asked : FileRangeVariant) → Asks start end asked → IsAscii start × IsAscii end
sides_ascii start end (Normal r) asks = (number_ascii start asks.1.numeral, number_ascii end asks.2.numeral)
sides_ascii start end (OpenRHS n) asks = (number_ascii start asks.0.numeral, no_bytes_ascii end asks.1)
sides_ascii start end (Suffix n) asks = (no_bytes_ascii start asks.0, number_ascii end asks.1.numeral)

pub means_utf8 : (value : List ℕ) (asked : FileRangeVariant) → Means value asked → IsUtf8 value
means_utf8 value asked means =
    let sides = sides_ascii means.start means.end asked means.asks in
    rw means.parts (IsUtf8-from_ascii _ (IsAscii-append (codes "bytes=") (means.start ++ 45 ∷ means.end) unit (IsAscii-append means.start (45 ∷ means.end) sides.0 (IsAscii-append (45 ∷ []) means.end dash sides.1))))
  where
    unit : IsAscii (codes "bytes=")
    unit = search arith

    dash : IsAscii (45 ∷ [])
    dash = search arith

start_lacks : (start end : List ℕ) (asked : FileRangeVariant) → Asks start end asked → Lacks 45 start
start_lacks start end (Normal r) asks = number_lacks 45 start (differs 43 45 (lit< tt), inl (lit< tt)) asks.1.numeral
start_lacks start end (OpenRHS n) asks = number_lacks 45 start (differs 43 45 (lit< tt), inl (lit< tt)) asks.0.numeral
start_lacks start end (Suffix n) asks = rw asks.0 (All-nil (λ b. b ≢ 45))

-- what stands behind the unit
rest_of : (value rest : List ℕ) (asked : FileRangeVariant) → value ≡ codes "bytes=" ++ rest → (means : Means value asked) → rest ≡ means.start ++ 45 ∷ means.end
rest_of value rest asked is means = append_cancel_left (codes "bytes=") rest (means.start ++ 45 ∷ means.end) (sym is ∙ means.parts)

pub no_dash : (value rest : List ℕ) → value ≡ codes "bytes=" ++ rest → ¬ Contains rest 45 → (asked : FileRangeVariant) → ¬ Means value asked
no_dash value rest is none asked means = unmarked 45 rest means.start means.end none (rest_of value rest asked is means)

pub sides_of : (value rest b a : List ℕ) (asked : FileRangeVariant) → value ≡ codes "bytes=" ++ rest → IsCutAtFirst 45 rest b a → Means value asked → Asks b a asked
sides_of value rest b a asked is cut means =
    let same = cut_first 45 rest b a means.start means.end cut (start_lacks means.start means.end asked means.asks) (rest_of value rest asked is means) in
    rw (same.0, same.1) means.asks

pub means_of : (value rest b a : List ℕ) (asked : FileRangeVariant) → value ≡ codes "bytes=" ++ rest → IsCutAtFirst 45 rest b a → Asks b a asked → Means value asked
means_of value rest b a asked is cut asks = record { start = b; end = a; parts = is ∙ ap (λ (t : List ℕ). codes "bytes=" ++ t) cut.parts; asks = asks }

no_number : (text : List ℕ) → IsNumber 64 text → text ≢ []
no_number [] n e = absurd (omega (arith, n.0.0))
no_number (b ∷ text) n e = cc

-- two sides ask for one thing at most
asks_once : (start end : List ℕ) (a b : FileRangeVariant) → Asks start end a → Asks start end b → a ≡ b
asks_once start end (Normal r) (Normal r') p q =
    let last = same_number end p.0 q.0 p.2 q.2 in
    ap Normal (same_range r r' (same_number start r.start r'.start p.1 q.1) (p.5 ∙ ap (λ (n : ℕ). n + 1) last ∙ sym q.5))
asks_once start end (Normal r) (OpenRHS n) p q = absurd (no_number end p.2.numeral q.1)
asks_once start end (Normal r) (Suffix n) p q = absurd (no_number start p.1.numeral q.0)
asks_once start end (OpenRHS n) (Normal r) p q = absurd (no_number end q.2.numeral p.1)
asks_once start end (OpenRHS n) (OpenRHS m) p q = ap OpenRHS (same_number start n m p.0 q.0)
asks_once start end (OpenRHS n) (Suffix m) p q = absurd (no_number start p.0.numeral q.0)
asks_once start end (Suffix n) (Normal r) p q = absurd (no_number start q.1.numeral p.0)
asks_once start end (Suffix n) (OpenRHS m) p q = absurd (no_number start q.0.numeral p.0)
asks_once start end (Suffix n) (Suffix m) p q = ap Suffix (same_number end n m p.1 q.1)

-- and so does a value
pub means_once : (value : List ℕ) (a b : FileRangeVariant) → Means value a → Means value b → a ≡ b
means_once value a b p q =
    let rest : p.start ++ 45 ∷ p.end ≡ q.start ++ 45 ∷ q.end = rest_of value (p.start ++ 45 ∷ p.end) b p.parts q in
    let same = same_cut 45 p.start p.end q.start q.end (start_lacks p.start p.end a p.asks) (start_lacks q.start q.end b q.asks) rest in
    asks_once p.start p.end a b p.asks (rw (same.0, same.1) q.asks)

some_digits : (n : ℕ) → n < 2 ^ 64 → decimal n ≢ []
some_digits n small none = no_number (decimal n) (number_reads n small).numeral none

-- the sides of a text of one range or more
more_of : (r : Range ℕ _H) (more value : List ℕ) (asked : FileRangeVariant) → Fits64 r → value ≡ codes "bytes=" ++ (range_text r ++ more) → Means value asked → Asks (decimal r.start) (decimal r.end ++ more) asked
more_of r more value asked fits is means =
    let shape : range_text r ++ more ≡ decimal r.start ++ 45 ∷ (decimal r.end ++ more) =
    append_assoc (decimal r.start ++ 45 ∷ []) (decimal r.end) more ∙ append_assoc (decimal r.start) (45 ∷ []) (decimal r.end ++ more) in
    sides_of value (range_text r ++ more) (decimal r.start) (decimal r.end ++ more) asked is (record { parts = shape; first = dash_lacks r.start fits.0 }) means

one_asked : (r : Range ℕ _H) (asked : FileRangeVariant) → Fits64 r → Asks (decimal r.start) (decimal r.end) asked → IsOne (r ∷ []) asked
one_asked r (Normal a) fits asks =
    let start : a.start ≡ r.start = same_number (decimal r.start) a.start r.start asks.1 (number_reads r.start fits.0) in
    let last : asks.0 ≡ r.end = same_number (decimal r.end) asks.0 r.end asks.2 (number_reads r.end fits.1) in
    (omega (arith, start, last, asks.3), omega (arith, last, asks.4), same_range a (interval r.start (r.end + 1)) start (asks.5 ∙ ap (λ (n : ℕ). n + 1) last))
one_asked r (OpenRHS n) fits asks = absurd (some_digits r.end fits.1 asks.1)
one_asked r (Suffix n) fits asks = absurd (some_digits r.start fits.0 asks.0)

comma_in : (before after : List ℕ) → Lacks 44 (before ++ 44 ∷ after) → ⊥
comma_in before after lacks = lacks_none 44 (before ++ 44 ∷ after) lacks (mark_there 44 before after)

none_asked : (start before after : List ℕ) (asked : FileRangeVariant) → start ≢ [] → ¬ Asks start (before ++ 44 ∷ after) asked
none_asked start before after (Normal a) some asks = comma_in before after (number_lacks 44 (before ++ 44 ∷ after) comma asks.2.numeral)
none_asked start before after (OpenRHS n) some asks = comma_in before after (rw asks.1 (All-nil (λ b. b ≢ 44)))
none_asked start before after (Suffix n) some asks = some asks.0

nothing_asked : (asked : FileRangeVariant) → ¬ Means (codes "bytes=" ++ []) asked
nothing_asked asked means = no_dash (codes "bytes=" ++ []) [] refl (λ there. absurd (omega (arith, there.1))) asked means

header_one : (rs : List (Range ℕ _H)) (asked : FileRangeVariant) → AllFit rs → Means (header_text rs) asked → IsOne rs asked
unfolding header_text
header_one [] asked fit means = absurd (nothing_asked asked means)
header_one (r ∷ []) asked fit means = one_asked r asked fit.0 (subst (λ (t : List ℕ). Asks (decimal r.start) t asked) (append-nil (decimal r.end)) (more_of r [] _ asked fit.0 refl means))
header_one (r ∷ r' ∷ rs) asked fit means = absurd (none_asked (decimal r.start) (decimal r.end) (range_text r' ++ ranges_text_from 2 rs) asked (some_digits r.start fit.0.0) (more_of r (44 ∷ (range_text r' ++ ranges_text_from 2 rs)) _ asked fit.0 refl means))

one_header : (rs : List (Range ℕ _H)) (asked : FileRangeVariant) → AllFit rs → IsOne rs asked → Means (header_text rs) asked
unfolding header_text
one_header [] asked fit one = absurd one
one_header (r ∷ []) (Normal a) fit one = record {
  start = decimal r.start;
  end = decimal r.end;
  parts = ap (λ (t : List ℕ). codes "bytes=" ++ t) (append-nil (range_text r) ∙ append_assoc (decimal r.start) (45 ∷ []) (decimal r.end));
  asks =
      let start : a.start ≡ r.start = ap (λ x. x.start) one.2 in
      let end : a.end ≡ r.end + 1 = ap (λ x. x.end) one.2 in
      (r.end, rw start (number_reads r.start fit.0.0), number_reads r.end fit.0.1, omega (arith, start, one.0), one.1, end);
}
one_header (r ∷ []) (OpenRHS n) fit one = absurd one
one_header (r ∷ []) (Suffix n) fit one = absurd one
one_header (r ∷ r' ∷ rs) asked fit one = absurd one

pub header_means : (rs : List (Range ℕ _H)) → AllFit rs → (asked : FileRangeVariant) → (Means (header_text rs) asked ↔ IsOne rs asked)
header_means rs fit asked = (header_one rs asked fit, one_header rs asked fit)

pub meaning_of : (value rest b a : List ℕ) (r : Option FileRangeVariant) → value ≡ codes "bytes=" ++ rest → IsCutAtFirst 45 rest b a → MatchOption r ((asked : FileRangeVariant) → ¬ Asks b a asked) (λ asked. Asks b a asked) → MatchOption r ((asked : FileRangeVariant) → ¬ Means value asked) (λ asked. Means value asked)
meaning_of value rest b a None is cut none = λ asked means. none asked (sides_of value rest b a asked is cut means)
meaning_of value rest b a (Some found) is cut asks = means_of value rest b a found is cut asks
