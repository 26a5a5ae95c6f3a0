-- What a body's texts tell: lines, boundaries, ranges, parts; and where they tell nothing.
use Rattle.std.specs.Prelude.{codes, Option, MatchOption}
use Rattle.std.specs.Prelude.{Result, Ok, Err}
use Rattle.xet_types.specs.declared.range.RangeParseError.{RangeParseError}
use Rattle.xet_types.specs.declared.range.RangeParseError.TheVariants.{InvalidFormat, ParseError}
use Rattle.xet_types.specs.declared.error.ClientError.{ClientError}
use Rattle.xet_types.specs.declared.error.ClientError.TheVariants.{FormatError, InvalidRange, InvalidArguments, FileNotFound, XORBNotFound, PresignedUrlExpirationError, IOError, Other, InvalidKey, CacheError, HttpStatus, OutOfMemory}
use Rattle.xet_types.specs.Ranges.{ReadsRange}
use Rattle.std.proofs.Common.{◌≡◌, ◌≢◌, ◌⊎◌, inl, inr, ℕ, ◌-◌, ◌<◌, ◌≤◌, Bool, true, false, eqb, ◌==◌, ◌&&◌, List, [], ◌∷◌, ◌++◌, length, take, drop, get_or, Some, None, refl, sym, ap, ◌∙◌, arith, subst, append_assoc, length-append}
use Rattle.std.specs.List.{Contains, slice_split, onto_first, suffix_len}
use Rattle.std.proofs.lemmas.List.Sums.{prefix_len_is, suffix_len_is}
use Rattle.std.specs.Str.{IsUtf8, trim, str_to_ascii_lowercase}
use denote.Ref.{Bor}
use Rattle.std.specs.Str.Pattern.{LacksTextAt, FindsText, SplitsAroundMatch}
use Rattle.std.proofs.lemmas.List.{append_cancel_left, append-nil, take-append-drop, drop_at}
use Rattle.std.proofs.lemmas.List.Splits.{slice_split_none, slice_split_at}
use Rattle.std.proofs.lemmas.List.{get_or_default}
use Rattle.std.proofs.lemmas.Bool.{eqb-true, cases_lt}
use Rattle.xet_types.specs.declared.range.Range.{Range}
use Rattle.xet_types.specs.declared.range._H.{_H}
use Rattle.std.specs.Global.{Vec}
use Rattle.std.proofs.Common.{not}
use Rattle.std.specs.List.{filter}
use Rattle.std.specs.List.Sorted.{IsStableByKey, ties}
use Rattle.std.specs.Ordering.{is_lt, nat_cmp}
use Rattle.std.proofs.lemmas.List.Elements.{filter_agree}
use Rattle.std.proofs.lemmas.Bool.Decides.{nat_tests}
use Rattle.xet_types.specs.Ranges.{interval}
use Rattle.xet_wire.specs.Texts.{IsCutAtFirst, IsRangeOf}
use Rattle.xet_wire.specs.Multipart.{Part, IsCutAround, IsUpTo, StandsIn, GivesBoundary, NamesBoundary, TellsBytes, IsRangeOfTotal, TellsRange, SpellsPart, TakesPart, ArePartsAfter, SpellsMultipart, crlf, delimiter, part_end, lines_of, unquoted, without_first_quotes, is_quote, part, start_of, IsOther, ReadsPart, ReadsParts, SpellsParts, ReadsMultipart, IsReadAs, GivesParts, IsByStart}
use Rattle.xet_wire.proofs.Marks.{same_cut, unmarked}
use Rattle.xet_wire.proofs.Lists.{other}
use Rattle.xet_wire.proofs.Words.{cut_once, up_to_once, stands_of}
use Rattle.xet_wire.proofs.MultipartOnce.{boundary_once, bytes_once, takes_once, spells_once, by_start_once}

-- LINES

-- a byte that begins no end of a line belongs to the first line
lines_byte : (b : ℕ) (text : List ℕ) → ¬ ((rest : List ℕ) × (b ∷ text ≡ crlf ++ rest)) → lines_of (b ∷ text) ≡ onto_first b (lines_of text)
lines_byte b [] none = refl
lines_byte b (c ∷ text) none = test (b == 13 && c == 10) refl
  where
    both : (v w : Bool) → eqb b 13 ≡ v → eqb c 10 ≡ w → (v && w) ≡ true → ⊥
    both true true e f h = none (text, rw (eqb-true b 13 e, eqb-true c 10 f) refl)
    both true false e f h = absurd (cc)
    both false w e f h = absurd (cc)

    test : (v : Bool) → (b == 13 && c == 10) ≡ v → lines_of (b ∷ c ∷ text) ≡ onto_first b (lines_of (c ∷ text))
    test true e = absurd (both (eqb b 13) (eqb c 10) refl refl e)
    test false e = rw e refl

-- the end of a line doesn't begin before the place at which it first stands
tail_cut : (x : ℕ) (text before after : List ℕ) → IsCutAround crlf (x ∷ text) (x ∷ before) after → IsCutAround crlf text before after
tail_cut x text before after cut = record {
  parts = let e = cut.parts in cc;
  first = λ b a e. let le = cut.first (x ∷ b) a (ap (λ (t : List ℕ). x ∷ t) e) in omega (arith, le);
}

pub lines_cut : (text before after : List ℕ) → IsCutAround crlf text before after → lines_of text ≡ before ∷ lines_of after
lines_cut text [] after cut = rw cut.parts refl
lines_cut [] (x ∷ before) after cut = let e = cut.parts in absurd (cc)
lines_cut (y ∷ text) (x ∷ before) after cut =
    let e = cut.parts in
    let same : y ≡ x = cc in
    let here : IsCutAround crlf (x ∷ text) (x ∷ before) after = subst (λ (z : ℕ). IsCutAround crlf (z ∷ text) (x ∷ before) after) same cut in
    let more = lines_cut text before after (tail_cut x text before after here) in
    let none : ¬ ((rest : List ℕ) × (x ∷ text ≡ crlf ++ rest)) = λ p. let le = here.first [] p.0 p.1 in absurd (omega (arith, le)) in
    subst (λ (z : ℕ). lines_of (z ∷ text) ≡ (x ∷ before) ∷ lines_of after) (sym same) (lines_byte x text none ∙ ap (λ (t : List (List ℕ)). onto_first x t) more)

pub lines_none : (text : List ℕ) → ¬ StandsIn crlf text → lines_of text ≡ text ∷ []
lines_none [] none = refl
lines_none (x ∷ text) none =
    let here : ¬ ((rest : List ℕ) × (x ∷ text ≡ crlf ++ rest)) = λ p. none (record { before = []; after = p.0; parts = p.1 }) in
    let rest = lines_none text (λ s. none (record { before = x ∷ s.before; after = s.after; parts = ap (λ (t : List ℕ). x ∷ t) s.parts })) in
    lines_byte x text here ∙ ap (λ (t : List (List ℕ)). onto_first x t) rest

-- HEADERS

-- a line tells bytes only through its first colon, and its value only through its first space
pub no_colon : (line : List ℕ) → ¬ Contains line 58 → (rest : List ℕ) → ¬ TellsBytes line rest
no_colon line none rest tells = unmarked 58 line tells.header.written tells.value none tells.header.cut.parts

pub other_name : (line name value : List ℕ) → IsCutAtFirst 58 line name value → str_to_ascii_lowercase name ≢ codes "content-range" → (rest : List ℕ) → ¬ TellsBytes line rest
other_name line name value cut differs rest tells =
    let same = same_cut 58 name value tells.header.written tells.value cut.first tells.header.cut.first (sym cut.parts ∙ tells.header.cut.parts) in
    differs (ap str_to_ascii_lowercase same.0 ∙ tells.header.same)

pub no_space : (line name value : List ℕ) → IsCutAtFirst 58 line name value → ¬ Contains (trim value) 32 → (rest : List ℕ) → ¬ TellsBytes line rest
no_space line name value cut none rest tells =
    let same = same_cut 58 name value tells.header.written tells.value cut.first tells.header.cut.first (sym cut.parts ∙ tells.header.cut.parts) in
    let there : trim value ≡ tells.unit.written ++ 32 ∷ rest = ap (λ (t : List ℕ). trim t) same.1 ∙ tells.unit.cut.parts in
    unmarked 32 (trim value) tells.unit.written rest none there

pub other_unit : (line name value unit told : List ℕ) → IsCutAtFirst 58 line name value → IsCutAtFirst 32 (trim value) unit told → str_to_ascii_lowercase unit ≢ codes "bytes" → (rest : List ℕ) → ¬ TellsBytes line rest
other_unit line name value unit told cut inner differs rest tells =
    let same = same_cut 58 name value tells.header.written tells.value cut.first tells.header.cut.first (sym cut.parts ∙ tells.header.cut.parts) in
    let there : trim value ≡ tells.unit.written ++ 32 ∷ rest = ap (λ (t : List ℕ). trim t) same.1 ∙ tells.unit.cut.parts in
    let units = same_cut 32 unit told tells.unit.written rest inner.first tells.unit.cut.first (sym inner.parts ∙ there) in
    differs (ap str_to_ascii_lowercase units.0 ∙ tells.unit.same)

pub tells_bytes : (line name value unit told : List ℕ) → IsCutAtFirst 58 line name value → str_to_ascii_lowercase name ≡ codes "content-range" → IsCutAtFirst 32 (trim value) unit told → str_to_ascii_lowercase unit ≡ codes "bytes" → TellsBytes line told
tells_bytes line name value unit told cut named inner in_bytes = record {
  value = value;
  header = record { written = name; cut = cut; same = named };
  unit = record { written = unit; cut = inner; same = in_bytes };
}

pub no_slash : (text : List ℕ) → ¬ Contains (trim text) 47 → (range : Range ℕ _H) → ¬ IsRangeOfTotal text range
no_slash text none range is = unmarked 47 (trim text) is.spelled is.total none is.cut.parts

-- where a text's method finds a word
lacks_at : (word text before after : List ℕ) → LacksTextAt word text (length before) → text ≡ before ++ (word ++ after) → ⊥
lacks_at word text before after lacks e = lacks after (ap (λ (t : List ℕ). drop (length before) t) e ∙ drop_at before (word ++ after) (length before) refl)

pub line_cut : (text : List ℕ) (r : Option (Bor (List ℕ) × Bor (List ℕ)))
    → MatchOption r (FindsText crlf text None) (λ x. SplitsAroundMatch (FindsText crlf) text x.0.now x.1.now)
    → MatchOption r (¬ StandsIn crlf text) (λ p. IsCutAround crlf text p.0.now p.1.now)
line_cut text None none = λ s. lacks_at crlf text s.before s.after (none (length s.before) (omega (arith, ap length s.parts, length-append s.before (crlf ++ s.after)))) s.parts
line_cut text (Some x) found =
    let i = found.0 in
    let j = found.1 in
    let found_at = found.2 in
    let there = found_at.1 in
    let front : x.0.now ≡ take i text = found.3 in
    let back : x.1.now ≡ drop j text = found.4 in
    record {
      parts = sym (take-append-drop i text) ∙ ap (λ (t : List ℕ). t ++ drop i text) (sym front) ∙ ap (λ (t : List ℕ). x.0.now ++ t) (there.split ∙ ap (λ (t : List ℕ). crlf ++ t) (sym back));
      first = λ b a e. not_before (length b) b a e refl (cases_lt (length b) i);
    }
  where
    not_before : (n : ℕ) (b a : List ℕ) → text ≡ b ++ (crlf ++ a) → length b ≡ n → (n < found.0) ⊎ (found.0 ≤ n) → length x.0.now ≤ length b
    not_before n b a e long (inl less) = absurd (lacks_at crlf text b a (found.2.0 (length b) (omega (arith, long, less))) e)
    not_before n b a e long (inr most) = omega (arith, most, long, found.6)

no_range : (text : List ℕ) (e : RangeParseError) (range : Range ℕ _H) → ReadsRange {K = _H} 64 text (Err e) → ¬ IsRangeOf text range
no_range text InvalidFormat range none is = none is.0
no_range text ParseError range none is = none.1 (is.1, is.2)

pub total_none : (text spelled total : List ℕ) (e : RangeParseError) → IsCutAtFirst 47 (trim text) spelled total → ReadsRange {K = _H} 64 spelled (Err e) → (range : Range ℕ _H) → ¬ IsRangeOfTotal text range
total_none text spelled total e cut none range is =
    let same = same_cut 47 spelled total is.spelled is.total cut.first is.cut.first (sym cut.parts ∙ is.cut.parts) in
    no_range spelled e range none (subst (λ (t : List ℕ). IsRangeOf t range) (sym same.0) is.is)

pub total_read : (text spelled total : List ℕ) (range : Range ℕ _H) → IsCutAtFirst 47 (trim text) spelled total → IsRangeOf spelled range → IsRangeOfTotal text range
total_read text spelled total range cut is = record { spelled = spelled; total = total; cut = cut; is = is }

-- PIECES

pub split_cut : (c : ℕ) (text b a : List ℕ) → IsCutAtFirst c text b a → slice_split (λ x. eqb x c) text ≡ b ∷ slice_split (λ x. eqb x c) a
split_cut c text b a cut = rw cut.parts (slice_split_at (λ x. eqb x c) b c a (λ k d lt. other (get_or b k d) c (cut.first k d lt)) (same c))
  where
    same : (x : ℕ) → eqb x x ≡ true
    same x = search arith

pub split_none : (c : ℕ) (text : List ℕ) → ¬ Contains text c → slice_split (λ x. eqb x c) text ≡ text ∷ []
split_none c text none = slice_split_none (λ x. eqb x c) text (λ k d lt. other (get_or text k d) c (λ e. none (k, lt, get_or_default text k c d lt ∙ e)))

-- what the pieces that are left tell is what all tell
pub record SameTold {X : Type 0} (R : List (List ℕ) → X → Type 0) (all left : List (List ℕ)) : Type 0 where
  pub ahead : (x : X) → R left x → R all x
  pub back : (x : X) → R all x → R left x

pub same_told : {X : Type 0} (R : List (List ℕ) → X → Type 0) (all : List (List ℕ)) → SameTold R all all
same_told R all = record { ahead = λ x r. r; back = λ x r. r }

-- BOUNDARIES

pub no_name : (all : List (List ℕ)) (piece : List ℕ) (pieces : List (List ℕ)) → SameTold GivesBoundary all (piece ∷ pieces) → ((quoted : List ℕ) → trim piece ≢ codes "boundary=" ++ quoted) → SameTold GivesBoundary all pieces
no_name all piece pieces told none = record {
  ahead = λ b r. told.ahead b (inr (none, r));
  back = λ b r. rest b (told.back b r);
}
  where
    rest : (b : List ℕ) → GivesBoundary (piece ∷ pieces) b → GivesBoundary pieces b
    rest b (inl g) = absurd (none g.0 g.1)
    rest b (inr g) = g.1

pub named_here : (all : List (List ℕ)) (piece quoted : List ℕ) (pieces : List (List ℕ)) → SameTold GivesBoundary all (piece ∷ pieces) → trim piece ≡ codes "boundary=" ++ quoted → GivesBoundary all (unquoted quoted)
named_here all piece quoted pieces told e = told.ahead (unquoted quoted) (inl (quoted, e, refl))

pub named_nowhere : (all : List (List ℕ)) → SameTold GivesBoundary all [] → (b : List ℕ) → ¬ GivesBoundary all b
named_nowhere all told b r = told.back b r

pub first_quotes : (text : List ℕ) (start : ℕ) → start ≤ length text → ((k : ℕ) → k < start → get_or text k 0 ≡ 34) → (start < length text → get_or text start 0 ≢ 34) → drop start text ≡ without_first_quotes text
first_quotes text start within quotes stops =
    let n = prefix_len_is is_quote text start 0 within (λ k lt. rw (quotes k lt) refl) (λ lt. other (get_or text start 0) 34 (stops lt)) in
    ap (λ (k : ℕ). drop k text) (sym n)

pub last_quotes : (text rest : List ℕ) (end : ℕ) → rest ≡ without_first_quotes text → end ≤ length rest → ((k : ℕ) → end ≤ k → k < length rest → get_or rest k 0 ≡ 34) → (0 < end → get_or rest (end - 1) 0 ≢ 34) → take end rest ≡ unquoted text
last_quotes text rest end is within quotes stops =
    let n = suffix_len_is is_quote rest end 0 within (λ k from lt. rw (quotes k from lt) refl) (λ some. other (get_or rest (end - 1) 0) 34 (stops some)) in
    let long : length rest - suffix_len is_quote rest ≡ end = omega (arith, n, within) in
    ap (λ (k : ℕ). take k rest) (sym long) ∙ ap (λ (t : List ℕ). take (length t - suffix_len is_quote t) t) is

-- RANGES

pub no_bytes_told : (all : List (List ℕ)) (line : List ℕ) (lines : List (List ℕ)) → SameTold TellsRange all (line ∷ lines) → ((rest : List ℕ) → ¬ TellsBytes line rest) → SameTold TellsRange all lines
no_bytes_told all line lines told none = record {
  ahead = λ r t. told.ahead r (inr (none, t));
  back = λ r t. rest r (told.back r t);
}
  where
    rest : (r : Range ℕ _H) → TellsRange (line ∷ lines) r → TellsRange lines r
    rest r (inl g) = absurd (none g.0 g.1)
    rest r (inr g) = g.1

pub told_here : (all : List (List ℕ)) (line told_text : List ℕ) (lines : List (List ℕ)) (r : Option (Range ℕ _H)) → SameTold TellsRange all (line ∷ lines) → TellsBytes line told_text
    → MatchOption r ((range : Range ℕ _H) → ¬ IsRangeOfTotal told_text range) (λ range. IsRangeOfTotal told_text range)
    → MatchOption r ((range : Range ℕ _H) → ¬ TellsRange all range) (λ range. TellsRange all range)
told_here all line told_text lines None told bytes none = λ range t. none_of range (told.back range t)
  where
    none_of : (range : Range ℕ _H) → TellsRange (line ∷ lines) range → ⊥
    none_of range (inl g) = none range (subst (λ (t : List ℕ). IsRangeOfTotal t range) (bytes_once line g.0 told_text g.1 bytes) g.2)
    none_of range (inr g) = g.0 told_text bytes
told_here all line told_text lines (Some range) told bytes is = told.ahead range (inl (told_text, bytes, is))

pub told_nowhere : (all : List (List ℕ)) → SameTold TellsRange all [] → (range : Range ℕ _H) → ¬ TellsRange all range
told_nowhere all told range t = told.back range t

-- PARTS

pub refused_part : (text : List ℕ) (e : ClientError) → IsOther e → ((p : Part) → ¬ SpellsPart text p) → ReadsPart text (Err e)
refused_part text (Other t) is none = none
refused_part text OutOfMemory is none = tt
refused_part text (FormatError f) is none = absurd is
refused_part text InvalidRange is none = absurd is
refused_part text InvalidArguments is none = absurd is
refused_part text (FileNotFound h) is none = absurd is
refused_part text (XORBNotFound h) is none = absurd is
refused_part text PresignedUrlExpirationError is none = absurd is
refused_part text IOError is none = absurd is
refused_part text (InvalidKey t) is none = absurd is
refused_part text (CacheError t) is none = absurd is
refused_part text (HttpStatus n) is none = absurd is

pub no_headers : (text : List ℕ) → ¬ StandsIn (crlf ++ crlf) text → (p : Part) → ¬ SpellsPart text p
no_headers text none p s = none (stands_of (crlf ++ crlf) text s.headers p.content s.cut)

pub no_range_told : (text headers content : List ℕ) → IsCutAround (crlf ++ crlf) text headers content → (IsUtf8 headers → (range : Range ℕ _H) → ¬ TellsRange (lines_of headers) range) → (p : Part) → ¬ SpellsPart text p
no_range_told text headers content cut none p s =
    let same = cut_once (crlf ++ crlf) text s.headers p.content headers content s.cut cut in
    none (subst IsUtf8 same.0 s.utf8) p.range (subst (λ (t : List ℕ). TellsRange (lines_of t) p.range) same.0 s.tells)

-- these parts were read, and this text is left
pub record ReadsOn (end all : List ℕ) (done : List Part) (left : List ℕ) : Type 0 where
  pub ahead : (more : List Part) → ArePartsAfter end left more → ArePartsAfter end all (done ++ more)
  pub back : (ps : List Part) → ArePartsAfter end all ps → (more : List Part) × (ps ≡ done ++ more) × ArePartsAfter end left more

pub reads_none : (end all : List ℕ) → ReadsOn end all [] all
reads_none end all = record { ahead = λ more are. are; back = λ ps are. (ps, refl, are) }

first_of : (end text : List ℕ) (p : Part) (after : List ℕ) (more : List Part) → TakesPart end text p after → ArePartsAfter end text more → (rest : List Part) × (more ≡ p ∷ rest) × ArePartsAfter end after rest
first_of end text p after [] takes are = absurd (are takes.rest takes.begins)
first_of end text p after (q ∷ qs) takes are =
    let same = takes_once end text q p are.0 after are.1 takes in
    (qs, ap (λ (x : Part). x ∷ qs) same.0, subst (λ (t : List ℕ). ArePartsAfter end t qs) same.1 are.2)

pub reads_more : (end all : List ℕ) (done : List Part) (left : List ℕ) (p : Part) (after : List ℕ) → ReadsOn end all done left → TakesPart end left p after → ReadsOn end all (done ++ p ∷ []) after
reads_more end all done left p after on takes = record {
  ahead = λ more are. subst (λ (ps : List Part). ArePartsAfter end all ps) (sym (append_assoc done (p ∷ []) more)) (on.ahead (p ∷ more) (after, takes, are));
  back = λ ps are.
      let rest = on.back ps are in
      let next = first_of end left p after rest.0 takes rest.2 in
      (next.0, rest.1 ∙ ap (λ (t : List Part). done ++ t) next.1 ∙ sym (append_assoc done (p ∷ []) next.0), next.2);
}

pub reads_all : (end all : List ℕ) (done : List Part) (left : List ℕ) → ReadsOn end all done left → ((rest : List ℕ) → left ≢ crlf ++ rest) → ArePartsAfter end all done
reads_all end all done left on ends = subst (λ (ps : List Part). ArePartsAfter end all ps) (append-nil done) (on.ahead [] ends)

none_takes : (end text rest piece after : List ℕ) → text ≡ crlf ++ rest → IsUpTo end rest piece after → ((p : Part) → ¬ SpellsPart piece p) → (ps : List Part) → ¬ ArePartsAfter end text ps
none_takes end text rest piece after begins reaches none [] are = are rest begins
none_takes end text rest piece after begins reaches none (p ∷ ps) are =
    let takes = are.1 in
    let same : takes.rest ≡ rest = append_cancel_left crlf takes.rest rest (sym takes.begins ∙ begins) in
    let pieces = up_to_once end rest takes.piece are.0 piece after (subst (λ (t : List ℕ). IsUpTo end t takes.piece are.0) same takes.reaches) reaches in
    none p (subst (λ (t : List ℕ). SpellsPart t p) pieces.0 takes.spelled)

pub reads_wrong : (end all : List ℕ) (done : List Part) (left rest piece after : List ℕ) (e : ClientError) → ReadsOn end all done left → left ≡ crlf ++ rest → IsUpTo end rest piece after → ReadsPart piece (Err e) → ReadsParts end all (Err e)
reads_wrong end all done left rest piece after (Other t) on begins reaches none = λ ps are.
    let more = on.back ps are in
    none_takes end left rest piece after begins reaches none more.0 more.2
reads_wrong end all done left rest piece after OutOfMemory on begins reaches none = tt
reads_wrong end all done left rest piece after (FormatError f) on begins reaches none = absurd none
reads_wrong end all done left rest piece after InvalidRange on begins reaches none = absurd none
reads_wrong end all done left rest piece after InvalidArguments on begins reaches none = absurd none
reads_wrong end all done left rest piece after (FileNotFound h) on begins reaches none = absurd none
reads_wrong end all done left rest piece after (XORBNotFound h) on begins reaches none = absurd none
reads_wrong end all done left rest piece after PresignedUrlExpirationError on begins reaches none = absurd none
reads_wrong end all done left rest piece after IOError on begins reaches none = absurd none
reads_wrong end all done left rest piece after (InvalidKey t) on begins reaches none = absurd none
reads_wrong end all done left rest piece after (CacheError t) on begins reaches none = absurd none
reads_wrong end all done left rest piece after (HttpStatus n) on begins reaches none = absurd none

-- BODIES

pub refused_body : (content_type body : List ℕ) (e : ClientError) → IsOther e → ((ps : List Part) → ¬ SpellsMultipart content_type body ps) → SpellsParts content_type body (Err e)
refused_body content_type body (Other t) is none = none
refused_body content_type body OutOfMemory is none = tt
refused_body content_type body (FormatError f) is none = absurd is
refused_body content_type body InvalidRange is none = absurd is
refused_body content_type body InvalidArguments is none = absurd is
refused_body content_type body (FileNotFound h) is none = absurd is
refused_body content_type body (XORBNotFound h) is none = absurd is
refused_body content_type body PresignedUrlExpirationError is none = absurd is
refused_body content_type body IOError is none = absurd is
refused_body content_type body (InvalidKey t) is none = absurd is
refused_body content_type body (CacheError t) is none = absurd is
refused_body content_type body (HttpStatus n) is none = absurd is

pub refused_type : (content_type body : List ℕ) (e : ClientError) → IsOther e → ((b : List ℕ) → ¬ NamesBoundary content_type b) → SpellsParts content_type body (Err e)
refused_type content_type body e is none = refused_body content_type body e is (λ ps s. none s.boundary s.named)

pub no_delimiter : (content_type body boundary : List ℕ) (e : ClientError) → IsOther e → NamesBoundary content_type boundary → ¬ StandsIn (delimiter boundary) body → SpellsParts content_type body (Err e)
no_delimiter content_type body boundary e is named none = refused_body content_type body e is (λ ps s.
    let same : s.boundary ≡ boundary = boundary_once (slice_split (λ b. b == 59) content_type) s.boundary boundary s.named named in
    none (subst (λ (b : List ℕ). StandsIn (delimiter b) body) same (stands_of (delimiter s.boundary) body s.before s.after s.cut)))

-- the parts behind the first delimiter are the body's
pub body_parts : (content_type body boundary before after : List ℕ) (r : Result (Vec Part) ClientError) → NamesBoundary content_type boundary → IsCutAround (delimiter boundary) body before after → ReadsParts (part_end boundary) after r → SpellsParts content_type body r
body_parts content_type body boundary before after (Ok parts) named cut are = record { boundary = boundary; named = named; before = before; after = after; cut = cut; are = are }
body_parts content_type body boundary before after (Err (Other t)) named cut none = λ ps s.
    let same : s.boundary ≡ boundary = boundary_once (slice_split (λ b. b == 59) content_type) s.boundary boundary s.named named in
    let other_cut : IsCutAround (delimiter boundary) body s.before s.after = subst (λ (b : List ℕ). IsCutAround (delimiter b) body s.before s.after) same s.cut in
    let sides = cut_once (delimiter boundary) body s.before s.after before after other_cut cut in
    let are : ArePartsAfter (part_end boundary) s.after ps = subst (λ (b : List ℕ). ArePartsAfter (part_end b) s.after ps) same s.are in
    none ps (subst (λ (t : List ℕ). ArePartsAfter (part_end boundary) t ps) sides.1 are)
body_parts content_type body boundary before after (Err OutOfMemory) named cut none = tt
body_parts content_type body boundary before after (Err (FormatError f)) named cut none = absurd none
body_parts content_type body boundary before after (Err InvalidRange) named cut none = absurd none
body_parts content_type body boundary before after (Err InvalidArguments) named cut none = absurd none
body_parts content_type body boundary before after (Err (FileNotFound h)) named cut none = absurd none
body_parts content_type body boundary before after (Err (XORBNotFound h)) named cut none = absurd none
body_parts content_type body boundary before after (Err PresignedUrlExpirationError) named cut none = absurd none
body_parts content_type body boundary before after (Err IOError) named cut none = absurd none
body_parts content_type body boundary before after (Err (InvalidKey t)) named cut none = absurd none
body_parts content_type body boundary before after (Err (CacheError t)) named cut none = absurd none
body_parts content_type body boundary before after (Err (HttpStatus n)) named cut none = absurd none

-- a refusal of the parts is one of the body
pub reads_refusal : (content_type body : List ℕ) (e : ClientError) → SpellsParts content_type body (Err e) → ReadsMultipart content_type body (Err e)
reads_refusal content_type body (Other t) none = none
reads_refusal content_type body OutOfMemory none = tt
reads_refusal content_type body (FormatError f) none = absurd none
reads_refusal content_type body InvalidRange none = absurd none
reads_refusal content_type body InvalidArguments none = absurd none
reads_refusal content_type body (FileNotFound h) none = absurd none
reads_refusal content_type body (XORBNotFound h) none = absurd none
reads_refusal content_type body PresignedUrlExpirationError none = absurd none
reads_refusal content_type body IOError none = absurd none
reads_refusal content_type body (InvalidKey t) none = absurd none
reads_refusal content_type body (CacheError t) none = absurd none
reads_refusal content_type body (HttpStatus n) none = absurd none

-- what is read is all that the body can be read as
pub read_once : (content_type body : List ℕ) (found parts : List Part) → IsReadAs content_type body found → IsReadAs content_type body parts → found ≡ parts
read_once content_type body found parts reads is =
    let given : reads.given ≡ is.given = spells_once content_type body reads.given is.given reads.spelled is.spelled in
    by_start_once is.given found parts (subst (λ (g : List Part). IsByStart g found) given reads.sorted) is.sorted

-- a stable sort by start keeps the order of the parts of one start
pub kept_ties : (given sorted : List Part) → IsStableByKey start_of nat_cmp given sorted → (start : ℕ) → filter (λ p. start_of p == start) sorted ≡ filter (λ p. start_of p == start) given
kept_ties given sorted stable start =
    let at : Part = part (interval start 0) [] in
    let tie : Part → Bool = ties (λ x y. is_lt (nat_cmp (start_of x) (start_of y))) at in
    let same : (p : Part) → (start_of p == start) ≡ tie p = λ p. tied start (start_of p) in
    filter_agree (λ p. start_of p == start) tie same sorted ∙ stable at ∙ sym (filter_agree (λ p. start_of p == start) tie same given)
  where
    tied : (s n : ℕ) → (n == s) ≡ (not (is_lt (nat_cmp s n)) && not (is_lt (nat_cmp n s)))
    tied s n = grind (arith, nat_tests)

pub reads_from : (content_type body : List ℕ) (r : Result (Vec Part) ClientError) → ReadsMultipart content_type body r → (parts : List Part) → IsReadAs content_type body parts → GivesParts parts r
reads_from content_type body (Ok found) reads parts is = read_once content_type body found.items parts reads is
reads_from content_type body (Err (Other t)) none parts is = absurd (none is.given is.spelled)
reads_from content_type body (Err OutOfMemory) none parts is = tt
reads_from content_type body (Err (FormatError f)) none parts is = absurd none
reads_from content_type body (Err InvalidRange) none parts is = absurd none
reads_from content_type body (Err InvalidArguments) none parts is = absurd none
reads_from content_type body (Err (FileNotFound h)) none parts is = absurd none
reads_from content_type body (Err (XORBNotFound h)) none parts is = absurd none
reads_from content_type body (Err PresignedUrlExpirationError) none parts is = absurd none
reads_from content_type body (Err IOError) none parts is = absurd none
reads_from content_type body (Err (InvalidKey t)) none parts is = absurd none
reads_from content_type body (Err (CacheError t)) none parts is = absurd none
reads_from content_type body (Err (HttpStatus n)) none parts is = absurd none

pub spells_part : (text headers content held : List ℕ) (range : Range ℕ _H) → held ≡ content → IsCutAround (crlf ++ crlf) text headers content → IsUtf8 headers → TellsRange (lines_of headers) range → SpellsPart text (part range held)
spells_part text headers content held range same cut utf8 tells = record {
  headers = headers;
  cut = subst (λ (t : List ℕ). IsCutAround (crlf ++ crlf) text headers t) (sym same) cut;
  utf8 = utf8;
  tells = tells;
}
