-- A body of several parts that is written is read as these parts, whatever they hold.
use Rattle.std.specs.Prelude.{codes, decimal, map}
use Rattle.std.proofs.Common.{◌≡◌, ◌≢◌, ◌⊎◌, inl, inr, ℕ, ◌+◌, ◌-◌, ◌<◌, ◌≤◌, ◌^◌, Bool, true, false, cond, eqb, ltb, ◌&&◌, List, [], ◌∷◌, ◌++◌, length, take, drop, get_or, refl, sym, ap, ◌∙◌, arith, subst, append_assoc, length-append, lit<}
use Rattle.std.specs.List.{All, Contains, flat_map, slice_split, prefix_len, suffix_len}
use Rattle.std.specs.Char.{is_whitespace}
use Rattle.std.specs.Str.{IsAscii, IsUtf8, trim, trim_start, trim_end, skip_leading_whitespace, drop_trailing_whitespace, str_to_ascii_lowercase}
use Rattle.std.specs.Str.Parse.{AllDigits}
use Rattle.std.proofs.lemmas.Str.{IsUtf8-from_ascii, IsAscii-append, chars-IsAscii, encodes-IsAscii}
use Rattle.std.proofs.lemmas.Str.Parse.{digit_at}
use Rattle.std.proofs.lemmas.Str.Ascii.{IsAscii-from_all}
use Rattle.std.proofs.lemmas.Bool.Decides.{nat_tests}
use Rattle.std.proofs.lemmas.Fmt.{decimal_is_IsNumeral}
use Rattle.std.proofs.lemmas.List.{take_all, map_more, flat_map_more}
use Rattle.std.proofs.lemmas.List.Elements.{All-nil, All-cons, All-append, All-from_get_or, All-head, All-tail, All-weaker, All-map}
use Rattle.std.proofs.lemmas.List.Sums.{suffix_len_is}
use Rattle.std.proofs.lemmas.List.Splits.{slice_split_none}
use Rattle.std.proofs.lemmas.Bool.{ltb-true, cases_lt}
use Rattle.xet_types.specs.declared.range.Range.{Range}
use Rattle.xet_types.specs.declared.range._H.{_H}
use Rattle.xet_types.specs.Ranges.{range_text, http_range_of}
use Rattle.xet_types.specs.declared.range._F.{_F}
use Rattle.xet_wire.specs.Texts.{Lacks, Fits64, IsCutAtFirst}
use Rattle.xet_wire.specs.Multipart.{Part, StandsIn, IsCutAround, IsAbsent, IsBoundaryOf, fixed_boundary, numbered_boundary, twenty_digits, crlf, delimiter, part_end, headers_text, part_text, multipart_text, content_type_text, NamesBoundary, GivesBoundary, unquoted, is_quote, lines_of, TellsBytes, TellsRange, IsRangeOfTotal, SpellsPart, TakesPart, ArePartsAfter, SpellsMultipart, WritesMultipart, content_of, part_of}
use Rattle.xet_wire.proofs.Marks.{Lacks-head, mark_there}
use Rattle.xet_wire.proofs.Lists.{other}
use Rattle.xet_wire.proofs.Written.{range_reads}
use Rattle.xet_wire.proofs.Words.{past, apart, Apart}
use Rattle.xet_wire.proofs.Boundaries.{lacks_by, lacks_test, numbered_is, stem}
use Rattle.xet_wire.proofs.TwentyDigits.{twenty_wide}
use Rattle.xet_wire.proofs.MultipartReads.{lines_cut, lines_none, split_cut, tells_bytes, total_read, other_name}

-- TRIMMED TEXTS

-- a byte that is no white space, and ASCII
abbrev pub IsGraphic : ℕ → Type 0
IsGraphic b = (32 < b) × (b < 127)

no_white : (b : ℕ) → IsGraphic b → is_whitespace b ≡ false
no_white b g = grind (arith, nat_tests)

ascii_of : (text : List ℕ) → All IsGraphic text → IsAscii text
ascii_of text all = IsAscii-from_all text (All-weaker IsGraphic (λ b. b < 128) (λ b g. omega (arith, g.1)) text all)

nothing_trailing : (text : List ℕ) → All IsGraphic text → drop_trailing_whitespace text ≡ text
nothing_trailing [] all = refl
nothing_trailing (b ∷ text) all =
    let rest = nothing_trailing text (All-tail IsGraphic b text all) in
    rw (no_white b (All-head IsGraphic b text all), rest) refl

-- a text that ends with graphic bytes has no white space at its end
kept_end : (front text : List ℕ) → 0 < length text → All IsGraphic text → drop_trailing_whitespace (front ++ text) ≡ front ++ text
kept_end [] text some all = nothing_trailing text all
kept_end (b ∷ front) text some all =
    let rest = kept_end front text some all in
    let long : length (front ++ text) ≢ 0 = λ e. omega (arith, e, some, length-append front text) in
    rw rest (kept (is_whitespace b) (other (length (front ++ text)) 0 long))
  where
    kept : (v : Bool) → eqb (length (front ++ text)) 0 ≡ false → cond (v && eqb (length (front ++ text)) 0) [] (b ∷ (front ++ text)) ≡ b ∷ (front ++ text)
    kept true e = rw e refl
    kept false e = refl

pub trimmed : (front text : List ℕ) → IsAscii (front ++ text) → 0 < length text → All IsGraphic text → skip_leading_whitespace (front ++ text) ≡ front ++ text → trim (front ++ text) ≡ front ++ text
unfolding trim_start trim_end
trimmed front text ascii some all kept =
    rw (chars-IsAscii (front ++ text) ascii, kept, encodes-IsAscii (front ++ text) ascii, chars-IsAscii (front ++ text) ascii, kept_end front text some all, encodes-IsAscii (front ++ text) ascii) refl

pub trimmed_space : (front text : List ℕ) → IsAscii (front ++ text) → 0 < length text → All IsGraphic text → skip_leading_whitespace (front ++ text) ≡ front ++ text → trim (32 ∷ (front ++ text)) ≡ front ++ text
unfolding trim_start trim_end
trimmed_space front text ascii some all kept =
    rw (chars-IsAscii (32 ∷ (front ++ text)) (IsAscii-append (32 ∷ []) (front ++ text) space ascii), kept, encodes-IsAscii (front ++ text) ascii, chars-IsAscii (front ++ text) ascii, kept_end front text some all, encodes-IsAscii (front ++ text) ascii) refl
  where
    space : IsAscii (32 ∷ [])
    space = search arith

-- BOUNDARIES

abbrev pub graphic_test : List ℕ → Bool
graphic_test [] = true
graphic_test (b ∷ text) = ltb 32 b && (ltb b 127 && graphic_test text)

pub graphic_by : (text : List ℕ) → graphic_test text ≡ true → All IsGraphic text
graphic_by [] passes = All-nil IsGraphic
graphic_by (b ∷ text) passes = first (ltb 32 b) (ltb b 127) refl refl passes (λ p. graphic_by text p)
  where
    first : (v w : Bool) → ltb 32 b ≡ v → ltb b 127 ≡ w → (v && (w && graphic_test text)) ≡ true → (graphic_test text ≡ true → All IsGraphic text) → All IsGraphic (b ∷ text)
    first true true e f p rest = All-cons IsGraphic b text (ltb-true 32 b e, ltb-true b 127 f) (rest p)
    first true false e f p rest = absurd (cc)
    first false w e f p rest = absurd (cc)

abbrev pub ascii_test : List ℕ → Bool
ascii_test [] = true
ascii_test (b ∷ text) = ltb b 128 && ascii_test text

ascii_all : (text : List ℕ) → ascii_test text ≡ true → All (λ b. b < 128) text
ascii_all [] passes = All-nil (λ b. b < 128)
ascii_all (b ∷ text) passes = first (ltb b 128) refl passes (λ p. ascii_all text p)
  where
    first : (v : Bool) → ltb b 128 ≡ v → (v && ascii_test text) ≡ true → (ascii_test text ≡ true → All (λ x. x < 128) text) → All (λ x. x < 128) (b ∷ text)
    first true e p rest = All-cons (λ x. x < 128) b text (ltb-true b 128 e) (rest p)
    first false e p rest = absurd (cc)

ascii_by : (text : List ℕ) → ascii_test text ≡ true → IsAscii text
ascii_by text passes = IsAscii-from_all text (ascii_all text passes)

-- what a boundary that is written is: it begins with an `x`, and has graphic bytes other than quotation marks and semicolons
pub record IsPlain (boundary : List ℕ) : Type 0 where
  pub tail : List ℕ
  pub is : boundary ≡ 120 ∷ tail
  pub graphic : All IsGraphic boundary
  pub no_quote : Lacks 34 boundary
  pub no_semicolon : Lacks 59 boundary

digits_graphic : (ds : List ℕ) → AllDigits 10 ds → All IsGraphic ds
digits_graphic ds digits = All-from_get_or IsGraphic ds 0 (λ i lt. let d = digit_at ds i digits lt in (omega (arith, d), omega (arith, d)))

digits_lack : (c : ℕ) (ds : List ℕ) → ((c < 48) ⊎ (57 < c)) → AllDigits 10 ds → Lacks c ds
digits_lack c ds (inl low) digits = All-from_get_or (λ b. b ≢ c) ds 0 (λ i lt e. let d = digit_at ds i digits lt in omega (arith, d, e, low))
digits_lack c ds (inr high) digits = All-from_get_or (λ b. b ≢ c) ds 0 (λ i lt e. let d = digit_at ds i digits lt in omega (arith, d, e, high))

fixed_plain : IsPlain fixed_boundary
fixed_plain = record {
  tail = codes "et_multipart_boundary";
  is = refl;
  graphic = graphic_by fixed_boundary refl;
  no_quote = lacks_by 34 fixed_boundary refl;
  no_semicolon = lacks_by 59 fixed_boundary refl;
}

numbered_plain : (n : ℕ) → n < 10 ^ 20 → IsPlain (numbered_boundary n)
numbered_plain n fits =
    let digits = twenty_wide n fits in
    subst IsPlain (sym (numbered_is n)) (record {
      tail = codes "et_multipart_boundary_" ++ twenty_digits n;
      is = refl;
      graphic = All-append IsGraphic stem (twenty_digits n) (graphic_by stem refl) (digits_graphic (twenty_digits n) digits);
      no_quote = All-append (λ b. b ≢ 34) stem (twenty_digits n) (lacks_by 34 stem refl) (digits_lack 34 (twenty_digits n) (inl (lit< tt)) digits);
      no_semicolon = All-append (λ b. b ≢ 59) stem (twenty_digits n) (lacks_by 59 stem refl) (digits_lack 59 (twenty_digits n) (inr (lit< tt)) digits);
    })

pub chosen_plain : (contents : List (List ℕ)) (boundary : List ℕ) → IsBoundaryOf contents boundary → IsPlain boundary × IsAbsent boundary contents
chosen_plain contents boundary (inl fixed) = (subst IsPlain (sym fixed.0) fixed_plain, subst (λ (b : List ℕ). IsAbsent b contents) (sym fixed.0) fixed.1)
chosen_plain contents boundary (inr numbered) = let least = numbered.1 in (subst IsPlain (sym least.text) (numbered_plain least.number least.fits), least.absent)

-- THE CONTENT TYPE

kept_graphic : (b : ℕ) (text : List ℕ) → IsGraphic b → skip_leading_whitespace (b ∷ text) ≡ b ∷ text
kept_graphic b text g = rw (no_white b g) refl

plain_unquoted : (boundary : List ℕ) → IsPlain boundary → unquoted boundary ≡ boundary
plain_unquoted boundary plain =
    let first : prefix_len is_quote boundary ≡ 0 = subst (λ (t : List ℕ). prefix_len is_quote t ≡ 0) (sym plain.is) refl in
    let rest : drop (prefix_len is_quote boundary) boundary ≡ boundary = ap (λ (n : ℕ). drop n boundary) first in
    let last : suffix_len is_quote boundary ≡ length boundary - length boundary = suffix_len_is is_quote boundary (length boundary) 0 (omega arith) (λ k from lt. absurd (omega (arith, from, lt))) (λ some. other (get_or boundary (length boundary - 1) 0) 34 (plain.no_quote (length boundary - 1) 0 (omega (arith, some)))) in
    ap (λ (t : List ℕ). take (length t - suffix_len is_quote t) t) rest ∙ take_all (length boundary - suffix_len is_quote boundary) boundary (omega (arith, last))

-- the content type that is written names its boundary
pub names_written : (boundary : List ℕ) → IsPlain boundary → NamesBoundary (content_type_text boundary) boundary
unfolding content_type_text
names_written boundary plain =
    let front : List ℕ = codes "multipart/byteranges" in
    let name : List ℕ = codes "boundary=" in
    let pieces : slice_split (λ b. eqb b 59) (codes "multipart/byteranges" ++ 59 ∷ (32 ∷ (codes "boundary=" ++ boundary))) ≡ codes "multipart/byteranges" ∷ (32 ∷ (codes "boundary=" ++ boundary)) ∷ [] =
    split_cut 59 (codes "multipart/byteranges" ++ 59 ∷ (32 ∷ (codes "boundary=" ++ boundary))) (codes "multipart/byteranges") (32 ∷ (codes "boundary=" ++ boundary)) (record { parts = refl; first = lacks_by 59 (codes "multipart/byteranges") refl })
    ∙ ap (λ (ps : List (List ℕ)). codes "multipart/byteranges" ∷ ps) (slice_split_none (λ b. eqb b 59) (32 ∷ (codes "boundary=" ++ boundary)) (λ k d lt. other (get_or (32 ∷ (codes "boundary=" ++ boundary)) k d) 59 (All-append (λ b. b ≢ 59) (codes " boundary=") boundary (lacks_by 59 (codes " boundary=") refl) plain.no_semicolon k d lt))) in
    let all : All IsGraphic (codes "boundary=" ++ boundary) = All-append IsGraphic (codes "boundary=") boundary (graphic_by (codes "boundary=") refl) plain.graphic in
    let kept : skip_leading_whitespace (codes "boundary=" ++ boundary) ≡ codes "boundary=" ++ boundary = kept_graphic 98 (codes "oundary=" ++ boundary) (lit< tt, lit< tt) in
    let second : trim (32 ∷ (codes "boundary=" ++ boundary)) ≡ codes "boundary=" ++ boundary = trimmed_space [] (codes "boundary=" ++ boundary) (ascii_of (codes "boundary=" ++ boundary) all) (omega (arith, length-append (codes "boundary=") boundary)) all kept in
    let first : trim (codes "multipart/byteranges") ≡ codes "multipart/byteranges" = trimmed [] (codes "multipart/byteranges") (ascii_of (codes "multipart/byteranges") (graphic_by (codes "multipart/byteranges") refl)) (lit< tt) (graphic_by (codes "multipart/byteranges") refl) (kept_graphic 109 (codes "ultipart/byteranges") (lit< tt, lit< tt)) in
    let none : (quoted : List ℕ) → trim (codes "multipart/byteranges") ≢ codes "boundary=" ++ quoted = λ quoted e. starts quoted (sym first ∙ e) in
    subst (λ (ps : List (List ℕ)). GivesBoundary ps boundary) (sym pieces) (inr (none, inl (boundary, second, sym (plain_unquoted boundary plain))))
  where
    starts : (quoted : List ℕ) → codes "multipart/byteranges" ≢ codes "boundary=" ++ quoted
    starts quoted e = omega (arith, ap (λ (t : List ℕ). get_or t 0 0) e)

-- HEADERS

abbrev pub type_line : List ℕ
type_line = codes "Content-Type: application/octet-stream"

-- what stands behind the unit
abbrev pub told_text : Range ℕ _H → ℕ → List ℕ
told_text r total = range_text r ++ 47 ∷ decimal total

abbrev pub range_line : Range ℕ _H → ℕ → List ℕ
range_line r total = codes "Content-Range: bytes " ++ told_text r total

headers_is : (r : Range ℕ _H) (total : ℕ) → headers_text r total ≡ type_line ++ (crlf ++ range_line r total)
unfolding headers_text
headers_is r total = refl

decimal_digits : (n : ℕ) → n < 2 ^ 64 → AllDigits 10 (decimal n)
decimal_digits n small = (decimal_is_IsNumeral n small).0.1

range_all : (P : ℕ → Type 0) (r : Range ℕ _H) → All P (decimal r.start) → P 45 → All P (decimal r.end) → All P (range_text r)
range_all P r start dash end = All-append P (decimal r.start ++ 45 ∷ []) (decimal r.end) (All-append P (decimal r.start) (45 ∷ []) start (All-cons P 45 [] dash (All-nil P))) end

told_all : (P : ℕ → Type 0) (r : Range ℕ _H) (total : ℕ) → All P (range_text r) → P 47 → All P (decimal total) → All P (told_text r total)
told_all P r total range slash end = All-append P (range_text r) (47 ∷ decimal total) range (All-cons P 47 (decimal total) slash end)

told_graphic : (r : Range ℕ _H) (total : ℕ) → Fits64 r → total < 2 ^ 64 → All IsGraphic (told_text r total)
told_graphic r total fits small =
    told_all IsGraphic r total (range_all IsGraphic r (digits_graphic (decimal r.start) (decimal_digits r.start fits.0)) (lit< tt, lit< tt) (digits_graphic (decimal r.end) (decimal_digits r.end fits.1))) (lit< tt, lit< tt) (digits_graphic (decimal total) (decimal_digits total small))

range_lacks : (c : ℕ) (r : Range ℕ _H) → 45 ≢ c → ((c < 48) ⊎ (57 < c)) → Fits64 r → Lacks c (range_text r)
range_lacks c r dash other_digit fits = range_all (λ b. b ≢ c) r (digits_lack c (decimal r.start) other_digit (decimal_digits r.start fits.0)) dash (digits_lack c (decimal r.end) other_digit (decimal_digits r.end fits.1))

told_lacks : (c : ℕ) (r : Range ℕ _H) (total : ℕ) → 45 ≢ c → 47 ≢ c → ((c < 48) ⊎ (57 < c)) → Fits64 r → total < 2 ^ 64 → Lacks c (told_text r total)
told_lacks c r total dash slash other_digit fits small = told_all (λ b. b ≢ c) r total (range_lacks c r dash other_digit fits) slash (digits_lack c (decimal total) other_digit (decimal_digits total small))

line_lacks : (c : ℕ) (r : Range ℕ _H) (total : ℕ) → lacks_test c (codes "Content-Range: bytes ") ≡ true → 45 ≢ c → 47 ≢ c → ((c < 48) ⊎ (57 < c)) → Fits64 r → total < 2 ^ 64 → Lacks c (range_line r total)
line_lacks c r total passes dash slash other_digit fits small = All-append (λ b. b ≢ c) (codes "Content-Range: bytes ") (told_text r total) (lacks_by c (codes "Content-Range: bytes ") passes) (told_lacks c r total dash slash other_digit fits small)

no_break : (r : Range ℕ _H) (total : ℕ) → Fits64 r → total < 2 ^ 64 → Lacks 13 (range_line r total)
no_break r total fits small = line_lacks 13 r total refl (λ e. absurd (omega (arith, e))) (λ e. absurd (omega (arith, e))) (inl (lit< tt)) fits small

-- a line without a carriage return ends at the first end of a line
line_first : (line rest : List ℕ) → Lacks 13 line → IsCutAround crlf (line ++ (crlf ++ rest)) line rest
line_first line rest lacks = record {
  parts = refl;
  first = λ b a e. let p = past 13 line (crlf ++ rest) b (10 ∷ a) lacks e in omega (arith, ap length p.1, length-append line p.0);
}

one_line : (line : List ℕ) → Lacks 13 line → ¬ StandsIn crlf line
one_line line lacks s =
    let there = mark_there 13 s.before (10 ∷ s.after) in
    let here : Contains line 13 = subst (λ (t : List ℕ). Contains t 13) (sym s.parts) there in
    lacks here.0 13 here.1 here.2

lines_written : (r : Range ℕ _H) (total : ℕ) → Fits64 r → total < 2 ^ 64 → lines_of (headers_text r total) ≡ type_line ∷ range_line r total ∷ []
lines_written r total fits small =
    ap lines_of (headers_is r total)
    ∙ lines_cut (type_line ++ (crlf ++ range_line r total)) type_line (range_line r total) (line_first type_line (range_line r total) (lacks_by 13 type_line refl))
    ∙ ap (λ (ls : List (List ℕ)). type_line ∷ ls) (lines_none (range_line r total) (one_line (range_line r total) (no_break r total fits small)))

kept_all : (text : List ℕ) → All IsGraphic text → skip_leading_whitespace text ≡ text
kept_all [] all = refl
kept_all (b ∷ text) all = kept_graphic b text (All-head IsGraphic b text all)

-- the headers that are written tell their range
pub tells_written : (r : Range ℕ _H) (total : ℕ) → Fits64 r → total < 2 ^ 64 → TellsRange (lines_of (headers_text r total)) r
tells_written r total fits small =
    let told : List ℕ = told_text r total in
    let graphic = told_graphic r total fits small in
    let some : 0 < length (told_text r total) = omega (arith, length-append (range_text r) (47 ∷ decimal total)) in
    let ascii : IsAscii (codes "bytes " ++ told_text r total) = IsAscii-append (codes "bytes ") (told_text r total) unit (ascii_of (told_text r total) graphic) in
    let value : trim (32 ∷ (codes "bytes " ++ told_text r total)) ≡ codes "bytes " ++ told_text r total = trimmed_space (codes "bytes ") (told_text r total) ascii some graphic (kept_graphic 98 (codes "ytes " ++ told_text r total) (lit< tt, lit< tt)) in
    let inner : IsCutAtFirst 32 (trim (32 ∷ (codes "bytes " ++ told_text r total))) (codes "bytes") (told_text r total) = subst (λ (t : List ℕ). IsCutAtFirst 32 t (codes "bytes") (told_text r total)) (sym value) (record { parts = refl; first = lacks_by 32 (codes "bytes") refl }) in
    let outer : IsCutAtFirst 58 (range_line r total) (codes "Content-Range") (32 ∷ (codes "bytes " ++ told_text r total)) = record { parts = refl; first = lacks_by 58 (codes "Content-Range") refl } in
    let tells : TellsBytes (range_line r total) (told_text r total) = tells_bytes (range_line r total) (codes "Content-Range") (32 ∷ (codes "bytes " ++ told_text r total)) (codes "bytes") (told_text r total) outer refl inner refl in
    let kept : trim (told_text r total) ≡ told_text r total = trimmed [] (told_text r total) (ascii_of (told_text r total) graphic) some graphic (kept_all (told_text r total) graphic) in
    let cut : IsCutAtFirst 47 (trim (told_text r total)) (range_text r) (decimal total) = subst (λ (t : List ℕ). IsCutAtFirst 47 t (range_text r) (decimal total)) (sym kept) (record { parts = refl; first = range_lacks 47 r (λ e. absurd (omega (arith, e))) (inl (lit< tt)) fits }) in
    let is : IsRangeOfTotal (told_text r total) r = total_read (told_text r total) (range_text r) (decimal total) r cut (range_reads r fits) in
    let none = other_name type_line (codes "Content-Type") (codes " application/octet-stream") (record { parts = refl; first = lacks_by 58 (codes "Content-Type") refl }) differs in
    subst (λ (ls : List (List ℕ)). TellsRange ls r) (sym (lines_written r total fits small)) (inr (none, inl (told_text r total, tells, is)))
  where
    unit : IsAscii (codes "bytes ")
    unit = search arith

    differs : str_to_ascii_lowercase (codes "Content-Type") ≢ codes "content-range"
    differs e = absurd (cc)

headers_utf8 : (r : Range ℕ _H) (total : ℕ) → Fits64 r → total < 2 ^ 64 → IsUtf8 (headers_text r total)
headers_utf8 r total fits small =
    subst IsUtf8 (sym (headers_is r total)) (IsUtf8-from_ascii (type_line ++ (crlf ++ range_line r total)) (IsAscii-append (type_line ++ (crlf ++ codes "Content-Range: bytes ")) (told_text r total) literal (ascii_of (told_text r total) (told_graphic r total fits small))))
  where
    literal : IsAscii (type_line ++ (crlf ++ codes "Content-Range: bytes "))
    literal = ascii_by (type_line ++ (crlf ++ codes "Content-Range: bytes ")) refl

-- PARTS

-- the empty line ends the headers
empty_line : (first second content b a : List ℕ) (s : ℕ) → Lacks 13 first → Lacks 13 (s ∷ second) → first ++ (13 ∷ 10 ∷ ((s ∷ second) ++ (13 ∷ 10 ∷ 13 ∷ 10 ∷ content))) ≡ b ++ 13 ∷ (10 ∷ 13 ∷ 10 ∷ a) → length first + 2 + length (s ∷ second) ≤ length b
empty_line first second content b a s one two e =
    let p = past 13 first (13 ∷ 10 ∷ ((s ∷ second) ++ (13 ∷ 10 ∷ 13 ∷ 10 ∷ content))) b (10 ∷ 13 ∷ 10 ∷ a) one e in
    sides p.0 p.1 p.2
  where
    sides : (more : List ℕ) → b ≡ first ++ more → 13 ∷ 10 ∷ ((s ∷ second) ++ (13 ∷ 10 ∷ 13 ∷ 10 ∷ content)) ≡ more ++ 13 ∷ (10 ∷ 13 ∷ 10 ∷ a) → length first + 2 + length (s ∷ second) ≤ length b
    sides [] f g = absurd (Lacks-head 13 s second two (ap (λ (t : List ℕ). get_or t 2 0) g))
    sides (x ∷ []) f g = omega (arith, ap (λ (t : List ℕ). get_or t 1 0) g)
    sides (x ∷ y ∷ more) f g =
        let rest : (s ∷ second) ++ (13 ∷ 10 ∷ 13 ∷ 10 ∷ content) ≡ more ++ 13 ∷ (10 ∷ 13 ∷ 10 ∷ a) = ap (λ (t : List ℕ). drop 2 t) g in
        let p = past 13 (s ∷ second) (13 ∷ 10 ∷ 13 ∷ 10 ∷ content) more (10 ∷ 13 ∷ 10 ∷ a) two rest in
        omega (arith, ap length f, length-append first (x ∷ y ∷ more), ap length p.1, length-append (s ∷ second) p.0)

-- a piece that is written is its part
pub spells_written : (total : ℕ) (p : Part) → Fits64 p.range → total < 2 ^ 64 → SpellsPart ((headers_text p.range total ++ (crlf ++ crlf)) ++ p.content) p
spells_written total p fits small = record {
  headers = headers_text p.range total;
  cut = record {
    parts = append_assoc (headers_text p.range total) (crlf ++ crlf) p.content;
    first = λ b a e. low b a (sym (laid_out (headers_text p.range total) (headers_is p.range total)) ∙ e);
  };
  utf8 = headers_utf8 p.range total fits small;
  tells = tells_written p.range total fits small;
}
  where
    laid_out : (h : List ℕ) → h ≡ type_line ++ (crlf ++ range_line p.range total) → (h ++ (crlf ++ crlf)) ++ p.content ≡ type_line ++ (crlf ++ (range_line p.range total ++ (13 ∷ 10 ∷ 13 ∷ 10 ∷ p.content)))
    laid_out h e = append_assoc h (crlf ++ crlf) p.content ∙ ap (λ (t : List ℕ). t ++ (13 ∷ 10 ∷ 13 ∷ 10 ∷ p.content)) e

    low : (b a : List ℕ) → type_line ++ (crlf ++ (range_line p.range total ++ (13 ∷ 10 ∷ 13 ∷ 10 ∷ p.content))) ≡ b ++ ((crlf ++ crlf) ++ a) → length (headers_text p.range total) ≤ length b
    low b a e =
        let le = empty_line type_line (codes "ontent-Range: bytes " ++ told_text p.range total) p.content b a 67 (lacks_by 13 type_line refl) (no_break p.range total fits small) e in
        omega (arith, le, ap length (headers_is p.range total), length-append type_line (crlf ++ range_line p.range total))

-- a part reaches to its end, since no boundary stands in it
pub reaches_written : (boundary front content after : List ℕ) → IsPlain boundary → Lacks 120 front → ¬ StandsIn boundary content
    → IsCutAround (part_end boundary) ((front ++ content) ++ (part_end boundary ++ after)) (front ++ content) after
reaches_written boundary front content after plain lacks absent = record {
  parts = refl;
  first = λ b a e. low b a e (cases_lt (length b) (length (front ++ content)));
}
  where
    no_return : Lacks 13 (10 ∷ 45 ∷ 45 ∷ boundary)
    no_return = All-append (λ b. b ≢ 13) (10 ∷ 45 ∷ 45 ∷ []) boundary (lacks_by 13 (10 ∷ 45 ∷ 45 ∷ []) refl) (All-weaker IsGraphic (λ b. b ≢ 13) (λ b g e. omega (arith, g.0, e)) boundary plain.graphic)

    inside : (b more : List ℕ) → front ++ content ≡ b ++ (part_end boundary ++ more) → ⊥
    inside b more e =
        let first : front ++ content ≡ (b ++ (13 ∷ 10 ∷ 45 ∷ 45 ∷ [])) ++ 120 ∷ (plain.tail ++ more) = e ∙ sym (append_assoc b (13 ∷ 10 ∷ 45 ∷ 45 ∷ []) (boundary ++ more)) ∙ ap (λ (t : List ℕ). (b ++ (13 ∷ 10 ∷ 45 ∷ 45 ∷ [])) ++ (t ++ more)) plain.is in
        let p = past 120 front content (b ++ (13 ∷ 10 ∷ 45 ∷ 45 ∷ [])) (plain.tail ++ more) lacks first in
        absent (record { before = p.0; after = more; parts = p.2 ∙ ap (λ (t : List ℕ). p.0 ++ (t ++ more)) (sym plain.is) })

    both : (b a : List ℕ) → length b < length (front ++ content) → Apart (part_end boundary) b a (front ++ content) after → length (front ++ content) ≤ length b
    both b a less (inl same) = omega (arith, ap length same.0)
    both b a less (inr p) = absurd (inside b p.0 p.1)

    low : (b a : List ℕ) → (front ++ content) ++ (part_end boundary ++ after) ≡ b ++ (part_end boundary ++ a) → (length b < length (front ++ content)) ⊎ (length (front ++ content) ≤ length b) → length (front ++ content) ≤ length b
    low b a e (inl less) = both b a less (apart 13 (10 ∷ 45 ∷ 45 ∷ boundary) b a (front ++ content) after no_return (sym e) (omega (arith, less)))
    low b a e (inr most) = most

-- BODIES

-- what follows a delimiter of a body that is written
abbrev pub tail_text : List ℕ → ℕ → List Part → List ℕ
tail_text boundary total [] = 45 ∷ 45 ∷ crlf
tail_text boundary total (p ∷ ps) = crlf ++ (((headers_text p.range total ++ (crlf ++ crlf)) ++ p.content) ++ (part_end boundary ++ tail_text boundary total ps))

pub multipart_tail : (boundary : List ℕ) (total : ℕ) (ps : List Part) → multipart_text boundary total ps ≡ delimiter boundary ++ tail_text boundary total ps
multipart_tail boundary total [] = refl
multipart_tail boundary total (p ∷ ps) =
    let h : List ℕ = headers_text p.range total in
    let rest = multipart_tail boundary total ps in
    append_assoc (part_text boundary total p ++ flat_map (part_text boundary total) ps) (delimiter boundary) (45 ∷ 45 ∷ crlf)
    ∙ append_assoc (part_text boundary total p) (flat_map (part_text boundary total) ps) (delimiter boundary ++ 45 ∷ 45 ∷ crlf)
    ∙ ap (λ (t : List ℕ). part_text boundary total p ++ t) (sym (append_assoc (flat_map (part_text boundary total) ps) (delimiter boundary) (45 ∷ 45 ∷ crlf)) ∙ rest)
    ∙ one_part (headers_text p.range total) (delimiter boundary ++ tail_text boundary total ps)
  where
    one_part : (h more : List ℕ) → (delimiter boundary ++ crlf ++ h ++ crlf ++ crlf ++ p.content ++ crlf) ++ more ≡ delimiter boundary ++ (crlf ++ (((h ++ (crlf ++ crlf)) ++ p.content) ++ (crlf ++ more)))
    one_part h more = simp append_assoc refl

pub are_written : (boundary : List ℕ) (total : ℕ) (ps : List Part) → IsPlain boundary → total < 2 ^ 64 → All (λ p. Fits64 p.range) ps → IsAbsent boundary (map content_of ps) → ArePartsAfter (part_end boundary) (tail_text boundary total ps) ps
are_written boundary total [] plain small fits absent = λ rest e. absurd (cc)
are_written boundary total (p ∷ ps) plain small fits absent =
    let front : List ℕ = headers_text p.range total ++ (crlf ++ crlf) in
    let fit : Fits64 p.range = All-head (λ p. Fits64 p.range) p ps fits in
    let lacks : Lacks 120 (headers_text p.range total ++ (crlf ++ crlf)) = All-append (λ b. b ≢ 120) (headers_text p.range total) (crlf ++ crlf) (subst (λ (t : List ℕ). Lacks 120 t) (sym (headers_is p.range total)) (All-append (λ b. b ≢ 120) type_line (crlf ++ range_line p.range total) (lacks_by 120 type_line refl) (All-append (λ b. b ≢ 120) crlf (range_line p.range total) (lacks_by 120 crlf refl) (line_lacks 120 p.range total refl (λ e. absurd (omega (arith, e))) (λ e. absurd (omega (arith, e))) (inr (lit< tt)) fit small)))) (lacks_by 120 (crlf ++ crlf) refl) in
    let takes : TakesPart (part_end boundary) (tail_text boundary total (p ∷ ps)) p (tail_text boundary total ps) = record {
      rest = ((headers_text p.range total ++ (crlf ++ crlf)) ++ p.content) ++ (part_end boundary ++ tail_text boundary total ps);
      piece = (headers_text p.range total ++ (crlf ++ crlf)) ++ p.content;
      begins = refl;
      reaches = inl (reaches_written boundary (headers_text p.range total ++ (crlf ++ crlf)) p.content (tail_text boundary total ps) plain lacks (All-head (λ part. ¬ StandsIn boundary part) p.content (map content_of ps) absent));
      spelled = spells_written total p fit small;
    } in
    (tail_text boundary total ps, takes, are_written boundary total ps plain small (All-tail (λ p. Fits64 p.range) p ps fits) (All-tail (λ part. ¬ StandsIn boundary part) p.content (map content_of ps) absent))

-- what is written of some parts is read as them
pub written_spells : (parts : List Part) (total : ℕ) (content_type body : List ℕ) → total < 2 ^ 64 → All (λ p. Fits64 p.range) parts → WritesMultipart parts total content_type body → SpellsMultipart content_type body parts
written_spells parts total content_type body small fits writes =
    let chosen = chosen_plain (map content_of parts) writes.boundary writes.chosen in
    let laid : body ≡ delimiter writes.boundary ++ tail_text writes.boundary total parts = writes.text ∙ multipart_tail writes.boundary total parts in
    record {
      boundary = writes.boundary;
      named = subst (λ (t : List ℕ). NamesBoundary t writes.boundary) (sym writes.type) (names_written writes.boundary chosen.0);
      before = [];
      after = tail_text writes.boundary total parts;
      cut = record { parts = laid; first = λ b a e. omega arith };
      are = are_written writes.boundary total parts chosen.0 small fits chosen.1;
    }

-- WRITING

-- one more part of a body
pub body_more : (boundary : List ℕ) (total : ℕ) (parts : List (Range ℕ _F × List ℕ)) (i : ℕ) (p : Range ℕ _F × List ℕ) (old new : List ℕ) → i < length parts → get_or parts i p ≡ p
    → old ≡ flat_map (part_text boundary total) (map part_of (take i parts)) → new ≡ old ++ part_text boundary total (part_of p) → new ≡ flat_map (part_text boundary total) (map part_of (take (i + 1) parts))
body_more boundary total parts i p old new lt at e f =
    let more : map part_of (take (i + 1) parts) ≡ map part_of (take i parts) ++ part_of p ∷ [] = map_more part_of parts i p lt ∙ ap (λ (x : Range ℕ _F × List ℕ). map part_of (take i parts) ++ part_of x ∷ []) at in
    f ∙ ap (λ (t : List ℕ). t ++ part_text boundary total (part_of p)) e ∙ flat_map_more (part_text boundary total) [] (map part_of (take i parts)) (part_of p) ∙ ap (flat_map (part_text boundary total)) (sym more)

pub all_fit_written : (parts : List (Range ℕ _F × List ℕ)) → All (λ p. Fits64 (http_range_of p.0)) parts → All (λ p. Fits64 p.range) (map part_of parts)
all_fit_written parts fits = All-map (λ p. Fits64 p.range) part_of parts fits
