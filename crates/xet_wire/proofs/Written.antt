-- Numbers and lists of ranges that are written are read back.
use Rattle.std.specs.Prelude.{decimal, map}
use Rattle.std.proofs.Common.{◌≡◌, ◌≢◌, ℕ, suc, ◌+◌, ◌<◌, ◌^◌, Bool, true, eqb, List, [], ◌∷◌, ◌++◌, length, get_or, refl, sym, ap, ◌∙◌, arith, subst, length-append, length-take, append_assoc, inl, lit<}
use Rattle.std.specs.List.{All, before_first, after_first, position_or_len}
use Rattle.std.specs.Str.Parse.{without_leading_plus}
use Rattle.std.proofs.lemmas.Str.Parse.{digit_at, without_leading_plus_none}
use Rattle.std.proofs.lemmas.Fmt.{decimal_is_IsNumeral}
use Rattle.std.proofs.lemmas.List.{append-nil, get_or_append_left, get_or-take}
use Rattle.std.proofs.Math.Seq.{get_or-append_seam}
use Rattle.std.proofs.lemmas.List.Elements.{All-from_get_or, All-append, All-cons}
use Rattle.std.proofs.lemmas.List.Sums.{split_at_first, fails_before_first, passes_at_first, position_or_len_is}
use Rattle.std.proofs.lemmas.List.Splits.{slice_split_at, slice_split_none}
use Rattle.std.proofs.lemmas.Bool.{eqb-true, eqb-false}
use Rattle.xet_types.specs.declared.range.Range.{Range}
use Rattle.xet_types.specs.Ranges.{number_value, range_text, interval}
use Rattle.xet_wire.specs.Texts.{Fits64, Lacks, IsNumberOf, IsRangeOf, AreRanges, ListsRanges, pieces_of, ranges_text, ranges_text_from}
use Rattle.xet_wire.proofs.Marks.{same_cut, number_lacks, comma, differs, mark_there}
use Rattle.xet_wire.proofs.Lists.{other}

-- the digits of a number are read as it
pub number_reads : (n : ℕ) → n < 2 ^ 64 → IsNumberOf (decimal n) n
number_reads n small =
    let digits = decimal_is_IsNumeral n small in
    let first = digit_at (decimal n) 0 digits.0.1 digits.0.0 in
    let plain : without_leading_plus (decimal n) ≡ decimal n = without_leading_plus_none (decimal n) (λ e. absurd (omega (arith, first, e))) in
    record {
      numeral = rw (plain, digits.1) (digits.0, small);
      value = rw (plain, digits.1) refl;
    }

-- what stands before and after the first mark
pub first_cut : (c : ℕ) (b a : List ℕ) → Lacks c b → (before_first (λ x. eqb x c) (b ++ c ∷ a) ≡ b) × (after_first (λ x. eqb x c) (b ++ c ∷ a) ≡ a)
first_cut c b a lacks =
    let xs : List ℕ = b ++ c ∷ a in
    let p : ℕ → Bool = λ x. eqb x c in
    let long : length xs ≡ length b + suc (length a) = length-append b (c ∷ a) in
    let at_seam : get_or (b ++ c ∷ a) (length b) 0 ≡ c = get_or-append_seam b c a 0 in
    let at : position_or_len p xs ≡ length b = position_or_len_is p xs (length b) 0 (omega (arith, long)) (λ k lt. rw (get_or_append_left b (c ∷ a) 0 k lt) (other (get_or b k 0) c (lacks k 0 lt))) (λ _. rw (at_seam) (eqb_same c)) in
    let within : position_or_len p xs < length xs = omega (arith, at, long) in
    let parts = split_at_first p xs 0 within in
    let here : get_or xs (position_or_len p xs) 0 ≡ c = eqb-true _ c (passes_at_first p xs 0 within) in
    let cut : xs ≡ before_first p xs ++ c ∷ after_first p xs = parts ∙ ap (λ (x : ℕ). before_first p xs ++ x ∷ after_first p xs) here in
    let before : Lacks c (before_first p xs) = All-from_get_or (λ x. x ≢ c) (before_first p xs) 0 (λ k lt e.
    let below : k < position_or_len p xs = omega (arith, lt, length-take (position_or_len p xs) xs) in
    eqb-false (get_or xs k 0) c (fails_before_first p xs k 0 below) (sym (get_or-take (position_or_len p xs) xs k 0 below) ∙ e)) in
    same_cut c (before_first p xs) (after_first p xs) b a before lacks (sym cut)
  where
    eqb_same : (x : ℕ) → eqb x x ≡ true
    eqb_same x = search arith

pub dash_lacks : (n : ℕ) → n < 2 ^ 64 → Lacks 45 (decimal n)
dash_lacks n small = number_lacks 45 (decimal n) (differs 43 45 (lit< tt), inl (lit< tt)) (number_reads n small).numeral

comma_lacks : (n : ℕ) → n < 2 ^ 64 → Lacks 44 (decimal n)
comma_lacks n small = number_lacks 44 (decimal n) comma (number_reads n small).numeral

-- the text of a range is read as it
pub range_reads : {K : Type 0} (r : Range ℕ K) → Fits64 r → IsRangeOf (range_text r) r
range_reads r fits =
    let shape : range_text r ≡ decimal r.start ++ 45 ∷ decimal r.end = append_assoc (decimal r.start) (45 ∷ []) (decimal r.end) in
    let cut = first_cut 45 (decimal r.start) (decimal r.end) (dash_lacks r.start fits.0) in
    let start = number_reads r.start fits.0 in
    let end = number_reads r.end fits.1 in
    rw (shape, cut.0, cut.1) (mark_there 45 (decimal r.start) (decimal r.end), start.numeral, end.numeral, ap (λ (n : ℕ). interval n r.end) start.value ∙ ap (λ (n : ℕ). interval (number_value (decimal r.start)) n) end.value)

pub range_text_lacks : {K : Type 0} (r : Range ℕ K) → Fits64 r → Lacks 44 (range_text r)
range_text_lacks r fits =
    All-append (λ b. b ≢ 44) (decimal r.start ++ 45 ∷ []) (decimal r.end)
    (All-append (λ b. b ≢ 44) (decimal r.start) (45 ∷ []) (comma_lacks r.start fits.0) (All-cons (λ b. b ≢ 44) 45 [] (differs 44 45 (lit< tt)) (λ k d lt. absurd (omega (arith, lt)))))
    (comma_lacks r.end fits.1)

abbrev pub AllFit : {K : Type 0} → List (Range ℕ K) → Type 0
AllFit [] = Unit {0}
AllFit (r ∷ rs) = Fits64 r × AllFit rs

-- the commas of a list's text cut it into its ranges
pieces_text : {K : Type 0} (n : ℕ) (t : List ℕ) (rs : List (Range ℕ K)) → Lacks 44 t → AllFit rs → pieces_of (t ++ ranges_text_from (suc n) rs) ≡ t ∷ map range_text rs
pieces_text n t [] lacks fit = rw (append-nil t) (slice_split_none (λ x. eqb x 44) t (λ k d lt. other (get_or t k d) 44 (lacks k d lt)))
pieces_text n t (r ∷ rs) lacks fit =
    slice_split_at (λ x. eqb x 44) t 44 (range_text r ++ ranges_text_from (suc (suc n)) rs) (λ k d lt. other (get_or t k d) 44 (lacks k d lt)) refl
    ∙ ap (λ (ps : List (List ℕ)). t ∷ ps) (pieces_text (suc n) (range_text r) rs (range_text_lacks r fit.0) fit.1)

are_more : {K : Type 0} (piece : List ℕ) (ps : List (List ℕ)) (r : Range ℕ K) (rs : List (Range ℕ K)) → 0 < length piece → IsRangeOf piece r → AreRanges ps rs → AreRanges (piece ∷ ps) (r ∷ rs)
are_more [] ps r rs some is are = absurd (omega (arith, some))
are_more (b ∷ piece) ps r rs some is are = (is, are)

some_text : {K : Type 0} (r : Range ℕ K) → 0 < length (range_text r)
some_text r = omega (arith, length-append (decimal r.start ++ 45 ∷ []) (decimal r.end), length-append (decimal r.start) (45 ∷ []))

are_written : {K : Type 0} (rs : List (Range ℕ K)) → AllFit rs → AreRanges (map range_text rs) rs
are_written [] fit = tt
are_written (r ∷ rs) fit = are_more (range_text r) (map range_text rs) r rs (some_text r) (range_reads r fit.0) (are_written rs fit.1)

-- a list that is written is read back
pub list_reads : {K : Type 0} (rs : List (Range ℕ K)) → AllFit rs → ListsRanges (ranges_text rs) rs
list_reads [] fit = tt
list_reads (r ∷ rs) fit = subst (λ (ps : List (List ℕ)). AreRanges ps (r ∷ rs)) (sym (pieces_text 0 (range_text r) rs (range_text_lacks r fit.0) fit.1)) (are_written (r ∷ rs) fit)

-- so are all of a list, as seen through a field
pub all_fit : {K X : Type 0} (f : X → Range ℕ K) (xs : List X) → All (λ x. Fits64 (f x)) xs → AllFit (map f xs)
all_fit f [] fit = tt
all_fit f (x ∷ xs) fit = (fit 0 x (omega arith), all_fit f xs (λ k d lt. fit (suc k) d (omega (arith, lt))))

pub each_fits : {K : Type 0} (rs : List (Range ℕ K)) → All (λ r. Fits64 r) rs → AllFit rs
each_fits [] fit = tt
each_fits (r ∷ rs) fit = (fit 0 r (omega arith), each_fits rs (λ k d lt. fit (suc k) d (omega (arith, lt))))
