-- Which of a row of chunks an interval keeps, with their bytes.
use Rattle.std.proofs.Common.{◌≡◌, ◌∙◌, ℕ, ◌+◌, ◌-◌, ◌<◌, ◌≤◌, min, max, cond, List, [], ◌∷◌, ◌++◌, length, map, take, drop, sum, filter, slice_range, refl, sym, ap, subst, arith, inl, inr, suc, zero, true, false}
use Rattle.std.specs.List.{AllByRecursion, concat}
use Rattle.std.proofs.lemmas.Bool.{cases_lt}
use Rattle.std.proofs.lemmas.List.{length-take, length-drop, length-map, drop-drop, take-take, drop-take, append_assoc, drop-append-le, drop_at}
use Rattle.xet_plan.specs.Places.{Interval, interval, meets}
use Rattle.xet_plan.specs.MetChunks.{chunk, lay, is_met, span}
use Rattle.xet_plan.proofs.Lay.{none_past, is_met-yes, is_met-no, filter-yes, filter-no, sum-cons}
use Rattle.xet_plan.proofs.Cuts.{length-lay}

abbrev pub Full : List (List ℕ) → Type 0
Full ds = AllByRecursion (λ d. 0 < length d) ds

abbrev pub keep : Interval → ℕ → List (List ℕ) → List (List ℕ)
keep clip at [] = []
keep clip at (d ∷ ds) = cond (meets clip at (length d)) (d ∷ keep clip (at + length d) ds) (keep clip (at + length d) ds)

abbrev pub first_kept : Interval → ℕ → List (List ℕ) → ℕ
first_kept clip at [] = 0
first_kept clip at (d ∷ ds) = cond (meets clip at (length d)) at (first_kept clip (at + length d) ds)

pub keep-yes : (clip : Interval) (at : ℕ) (d : List ℕ) (ds : List (List ℕ)) → meets clip at (length d) ≡ true → keep clip at (d ∷ ds) ≡ d ∷ keep clip (at + length d) ds
keep-yes clip at d ds e = rw e refl

pub keep-no : (clip : Interval) (at : ℕ) (d : List ℕ) (ds : List (List ℕ)) → meets clip at (length d) ≡ false → keep clip at (d ∷ ds) ≡ keep clip (at + length d) ds
keep-no clip at d ds e = rw e refl

pub first-yes : (clip : Interval) (at : ℕ) (d : List ℕ) (ds : List (List ℕ)) → meets clip at (length d) ≡ true → first_kept clip at (d ∷ ds) ≡ at
first-yes clip at d ds e = rw e refl

pub first-no : (clip : Interval) (at : ℕ) (d : List ℕ) (ds : List (List ℕ)) → meets clip at (length d) ≡ false → first_kept clip at (d ∷ ds) ≡ first_kept clip (at + length d) ds
first-no clip at d ds e = rw e refl

pub keep_past : (clip : Interval) (at : ℕ) (ds : List (List ℕ)) → clip.end ≤ at → keep clip at ds ≡ []
keep_past clip at [] l = refl
keep_past clip at (d ∷ ds) l = keep-no clip at d ds (is_met-no clip [] 0 at (length d) (inl l)) ∙ keep_past clip (at + length d) ds (omega arith)

pub record IsFront (clip : Interval) (h : List ℕ) (n at : ℕ) (ds : List (List ℕ)) : Type 0 where
  pub count : ℕ
  pub fits : count ≤ length ds
  pub keeps : keep clip at ds ≡ take count ds
  pub lays : filter (is_met clip) (lay h n at (map length ds)) ≡ lay h n at (map length (take count ds))

pub front : (clip : Interval) (h : List ℕ) (n at : ℕ) (ds : List (List ℕ)) → Full ds → clip.start < at → clip.start < clip.end → IsFront clip h n at ds
front clip h n at [] p s o = record { count = 0; fits = omega arith; keeps = refl; lays = refl }
front clip h n at (d ∷ ds) p s o = elim (cases_lt at clip.end) as (λ _. IsFront clip h n at (d ∷ ds)) [
  | inl l ↦
      (let rest : IsFront clip h (n + 1) (at + length d) ds = front clip h (n + 1) (at + length d) ds p.1 (omega arith) o in
      let yes : meets clip at (length d) ≡ true = is_met-yes clip h n at (length d) p.0 (omega arith) l o in
      record {
        count = suc rest.count;
        fits = omega (arith, rest.fits);
        keeps = keep-yes clip at d ds yes ∙ ap (λ es. d ∷ es) rest.keeps;
        lays = filter-yes (is_met clip) (chunk h n at (length d)) (lay h (n + 1) (at + length d) (map length ds)) yes ∙ ap (λ cs. chunk h n at (length d) ∷ cs) rest.lays;
      })
  | inr l ↦ record { count = 0; fits = omega arith; keeps = keep_past clip at (d ∷ ds) l; lays = none_past clip h n at (map length (d ∷ ds)) l }
]

pub record IsWindow (clip : Interval) (h : List ℕ) (n at : ℕ) (ds : List (List ℕ)) : Type 0 where
  pub skip : ℕ
  pub count : ℕ
  pub fits : skip + suc count ≤ length ds
  pub keeps : keep clip at ds ≡ take (suc count) (drop skip ds)
  pub lays : filter (is_met clip) (lay h n at (map length ds)) ≡ lay h (n + skip) (first_kept clip at ds) (map length (take (suc count) (drop skip ds)))

pub window : (clip : Interval) (h : List ℕ) (n at : ℕ) (ds : List (List ℕ)) → Full ds → max clip.start at < min clip.end (at + sum (map length ds)) → IsWindow clip h n at ds
window clip h n at [] p m = absurd (omega arith)
window clip h n at (d ∷ ds) p m = elim (cases_lt clip.start (at + length d)) as (λ _. IsWindow clip h n at (d ∷ ds)) [
  | inl l ↦
      (let rest : IsFront clip h (n + 1) (at + length d) ds = front clip h (n + 1) (at + length d) ds p.1 l (omega arith) in
      let yes : meets clip at (length d) ≡ true = is_met-yes clip h n at (length d) p.0 l (omega arith) (omega arith) in
      let zero' : n + 0 ≡ n = omega arith in
      record {
        skip = 0;
        count = rest.count;
        fits = omega (arith, rest.fits);
        keeps = keep-yes clip at d ds yes ∙ ap (λ es. d ∷ es) rest.keeps;
        lays = filter-yes (is_met clip) (chunk h n at (length d)) (lay h (n + 1) (at + length d) (map length ds)) yes ∙ ap (λ cs. chunk h n at (length d) ∷ cs) rest.lays
            ∙ rw (zero', first-yes clip at d ds yes) refl;
      })
  | inr l ↦
      (let e : sum (map length (d ∷ ds)) ≡ length d + sum (map length ds) = sum-cons (length d) (map length ds) in
      let w : IsWindow clip h (n + 1) (at + length d) ds = window clip h (n + 1) (at + length d) ds p.1 (omega arith) in
      let no : meets clip at (length d) ≡ false = is_met-no clip h n at (length d) (inr l) in
      let k : n + 1 + w.skip ≡ n + suc w.skip = omega arith in
      record {
        skip = suc w.skip;
        count = w.count;
        fits = omega (arith, w.fits);
        keeps = keep-no clip at d ds no ∙ w.keeps;
        lays = filter-no (is_met clip) (chunk h n at (length d)) (lay h (n + 1) (at + length d) (map length ds)) no ∙ w.lays
            ∙ rw (k, first-no clip at d ds no) refl;
      })
]

span-lay : (h : List ℕ) (n at : ℕ) (ns : List ℕ) → 0 < length ns → span (lay h n at ns) ≡ interval n (n + length ns)
span-lay h n at [] l = absurd (omega arith)
span-lay h n at (x ∷ xs) l = ap (λ k. interval n (n + suc k)) (length-lay h (n + 1) (at + x) xs)

-- the window's range of a xorb's chunks
pub window_range : (clip : Interval) (h : List ℕ) (at : ℕ) (cs : List (List ℕ)) (i j : ℕ) → i ≤ j → j ≤ length cs → (w : IsWindow clip h i at (slice_range cs i j))
    → (let s = span (filter (is_met clip) (lay h i at (map length (slice_range cs i j)))) in slice_range cs s.start s.end ≡ keep clip at (slice_range cs i j))
window_range clip h at cs i j l m w =
    let ds = slice_range cs i j in
    let block = take (suc w.count) (drop w.skip ds) in
    let rest = j - i - w.skip in
    let long : length ds ≡ j - i = omega (arith, length-take (j - i) (drop i cs), length-drop i cs) in
    let size : length (map length block) ≡ suc w.count = length-map block length ∙ omega (arith, length-take (suc w.count) (drop w.skip ds), length-drop w.skip ds, w.fits) in
    let at' : span (filter (is_met clip) (lay h i at (map length ds))) ≡ interval (i + w.skip) (i + w.skip + suc w.count) =
    ap span w.lays ∙ span-lay h (i + w.skip) (first_kept clip at ds) (map length block) (omega arith) ∙ ap (λ k. interval (i + w.skip) (i + w.skip + k)) size in
    let n : i + w.skip + suc w.count - (i + w.skip) ≡ suc w.count = omega arith in
    let split : j - i ≡ w.skip + rest = omega (arith, w.fits) in
    let inner : drop w.skip ds ≡ take rest (drop (i + w.skip) cs) =
    ap (λ k. drop w.skip (take k (drop i cs))) split ∙ drop-take w.skip rest (drop i cs) ∙ ap (take rest) (drop-drop w.skip i cs) in
    ap (λ (s : Interval). slice_range cs s.start s.end) at' ∙ ap (λ k. take k (drop (i + w.skip) cs)) n
    ∙ sym (take-take (suc w.count) rest (drop (i + w.skip) cs) (omega (arith, w.fits))) ∙ sym (ap (take (suc w.count)) inner) ∙ sym w.keeps

-- tails that agree as far as they are read
pub take_cong : {X : Type 0} (n : ℕ) (d xs ys : List X) → take (n - length d) xs ≡ take (n - length d) ys → take n (d ++ xs) ≡ take n (d ++ ys)
take_cong n [] xs ys e = let z : n - 0 ≡ n = omega arith in rw z at e
take_cong zero (x ∷ d) xs ys e = refl
take_cong (suc n) (x ∷ d) xs ys e = let z : suc n - suc (length d) ≡ n - length d = omega arith in ap (λ zs. x ∷ zs) (take_cong n d xs ys (rw z at e))

pub drop_past : {X : Type 0} (n : ℕ) (d xs : List X) → length d ≤ n → drop n (d ++ xs) ≡ drop (n - length d) xs
drop_past n d xs l =
    let e : n ≡ length d + (n - length d) = omega arith in
    ap (λ k. drop k (d ++ xs)) e ∙ sym (drop-drop (n - length d) (length d) (d ++ xs)) ∙ ap (drop (n - length d)) (drop_at d xs (length d) refl)

-- from inside the interval on, what is kept has the same bytes up to the interval's end
pub inside : (clip : Interval) (at : ℕ) (ds : List (List ℕ)) (t u : List ℕ) → Full ds → clip.start ≤ at → clip.start < clip.end
    → take (clip.end - (at + sum (map length ds))) t ≡ take (clip.end - (at + sum (map length ds))) u → take (clip.end - at) (concat ds ++ t) ≡ take (clip.end - at) (concat (keep clip at ds) ++ u)
inside clip at [] t u p s o e = let z : at + 0 ≡ at = omega arith in rw z at e
inside clip at (d ∷ ds) t u p s o e = elim (cases_lt at clip.end) as (λ _. take (clip.end - at) (concat (d ∷ ds) ++ t) ≡ take (clip.end - at) (concat (keep clip at (d ∷ ds)) ++ u)) [
  | inl l ↦
      (let yes : meets clip at (length d) ≡ true = is_met-yes clip [] 0 at (length d) p.0 (omega (arith, p.0)) l o in
      let z : at + sum (map length (d ∷ ds)) ≡ at + length d + sum (map length ds) = omega (arith, sum-cons (length d) (map length ds)) in
      let k : clip.end - at - length d ≡ clip.end - (at + length d) = omega arith in
      let rest : take (clip.end - (at + length d)) (concat ds ++ t) ≡ take (clip.end - (at + length d)) (concat (keep clip (at + length d) ds) ++ u) = inside clip (at + length d) ds t u p.1 (omega arith) o (subst (λ n. take (clip.end - n) t ≡ take (clip.end - n) u) z e) in
      ap (take (clip.end - at)) (append_assoc d (concat ds) t)
      ∙ take_cong (clip.end - at) d (concat ds ++ t) (concat (keep clip (at + length d) ds) ++ u) (subst (λ n. take n (concat ds ++ t) ≡ take n (concat (keep clip (at + length d) ds) ++ u)) (sym k) rest)
      ∙ ap (take (clip.end - at)) (sym (append_assoc d (concat (keep clip (at + length d) ds)) u))
      ∙ ap (λ es. take (clip.end - at) (concat es ++ u)) (sym (keep-yes clip at d ds yes)))
  | inr l ↦ (let z : clip.end - at ≡ 0 = omega arith in rw z refl)
]

-- from before the interval on
pub before : (clip : Interval) (at : ℕ) (ds : List (List ℕ)) (t u : List ℕ) → Full ds → at ≤ clip.start → clip.start < at + sum (map length ds) → clip.start < clip.end
    → take (clip.end - (at + sum (map length ds))) t ≡ take (clip.end - (at + sum (map length ds))) u
    → take (clip.end - clip.start) (drop (clip.start - at) (concat ds ++ t)) ≡ take (clip.end - clip.start) (drop (clip.start - first_kept clip at ds) (concat (keep clip at ds) ++ u))
before clip at [] t u p s m o e = absurd (omega arith)
before clip at (d ∷ ds) t u p s m o e =
    let z : at + sum (map length (d ∷ ds)) ≡ at + length d + sum (map length ds) = omega (arith, sum-cons (length d) (map length ds)) in
    let e' : take (clip.end - (at + length d + sum (map length ds))) t ≡ take (clip.end - (at + length d + sum (map length ds))) u = subst (λ n. take (clip.end - n) t ≡ take (clip.end - n) u) z e in
    elim (cases_lt clip.start (at + length d)) as (λ _. take (clip.end - clip.start) (drop (clip.start - at) (concat (d ∷ ds) ++ t)) ≡ take (clip.end - clip.start) (drop (clip.start - first_kept clip at (d ∷ ds)) (concat (keep clip at (d ∷ ds)) ++ u))) [
      | inl l ↦
          (let yes : meets clip at (length d) ≡ true = is_met-yes clip [] 0 at (length d) p.0 l (omega arith) o in
          let k : clip.end - clip.start - length (drop (clip.start - at) d) ≡ clip.end - (at + length d) = omega (arith, length-drop (clip.start - at) d) in
          let rest : take (clip.end - (at + length d)) (concat ds ++ t) ≡ take (clip.end - (at + length d)) (concat (keep clip (at + length d) ds) ++ u) = inside clip (at + length d) ds t u p.1 (omega arith) o e' in
          let cut : (xs : List ℕ) → drop (clip.start - at) (d ++ xs) ≡ drop (clip.start - at) d ++ xs = λ (xs : List ℕ). drop-append-le (clip.start - at) d xs (omega arith) in
          ap (λ xs. take (clip.end - clip.start) (drop (clip.start - at) xs)) (append_assoc d (concat ds) t)
          ∙ ap (take (clip.end - clip.start)) (cut (concat ds ++ t))
          ∙ take_cong (clip.end - clip.start) (drop (clip.start - at) d) (concat ds ++ t) (concat (keep clip (at + length d) ds) ++ u) (subst (λ n. take n (concat ds ++ t) ≡ take n (concat (keep clip (at + length d) ds) ++ u)) (sym k) rest)
          ∙ ap (take (clip.end - clip.start)) (sym (cut (concat (keep clip (at + length d) ds) ++ u)))
          ∙ ap (λ xs. take (clip.end - clip.start) (drop (clip.start - at) xs)) (sym (append_assoc d (concat (keep clip (at + length d) ds)) u))
          ∙ rw (keep-yes clip at d ds yes, first-yes clip at d ds yes) refl)
      | inr l ↦
          (let no : meets clip at (length d) ≡ false = is_met-no clip [] 0 at (length d) (inr l) in
          let k : clip.start - at - length d ≡ clip.start - (at + length d) = omega arith in
          ap (λ xs. take (clip.end - clip.start) (drop (clip.start - at) xs)) (append_assoc d (concat ds) t)
          ∙ ap (take (clip.end - clip.start)) (drop_past (clip.start - at) d (concat ds ++ t) (omega arith) ∙ ap (λ n. drop n (concat ds ++ t)) k)
          ∙ before clip (at + length d) ds t u p.1 l (omega arith) o e'
          ∙ rw (keep-no clip at d ds no, first-no clip at d ds no) refl)
    ]
