-- Steps of the plain programs.
use Rattle.std.proofs.Common.{◌≡◌, ◌∙◌, ℕ, ◌+◌, ◌-◌, ◌<◌, ◌≤◌, min, List, [], ◌∷◌, ◌++◌, length, get_or, take, drop, sum, filter, slice_range, ap, sym, arith, true, false, inl, inr}
use Rattle.std.proofs.lemmas.List.{take_min, length-drop, length-append}
use Rattle.std.proofs.lemmas.List.Sums.{sum_by-take-le, sum_by-cons}
use Rattle.std.specs.List.{sum_by}
use Rattle.std.proofs.lemmas.Bool.{cases_lt}
use Rattle.xet_plan.specs.Places.{Interval}
use Rattle.xet_plan.specs.MetChunks.{Chunk, chunk, lay, is_met, span}
use Rattle.xet_plan.proofs.Lay.{range-first, sum-range, filter-no, filter-yes}

pub range_past : (xs : List ℕ) (i j : ℕ) → slice_range xs i (min j (length xs)) ≡ slice_range xs i j
range_past xs i j =
    let n : min j (length xs) - i ≡ min (j - i) (length (drop i xs)) = omega (arith, length-drop i xs) in
    ap (λ (k : ℕ). take k (drop i xs)) n ∙ take_min (j - i) (drop i xs)

pub sum_range_le : (xs : List ℕ) (i j : ℕ) → sum (slice_range xs i j) ≤ sum xs
sum_range_le xs i j = elim (cases_lt j i) as (λ _. sum (slice_range xs i j) ≤ sum xs) [
  | inl l ↦
      (let n : j - i ≡ 0 = omega arith in
      let e : sum (slice_range xs i j) ≡ 0 = ap (λ (k : ℕ). sum (take k (drop i xs))) n in
      omega arith)
  | inr l ↦ omega (arith, sum-range xs i j l, sum_by-take-le (λ (x : ℕ). x) xs j)
]

-- a chunk laid down that isn't met, and one that is
pub chunk_passed : (clip : Interval) (h : List ℕ) (xs : List ℕ) (i j at : ℕ) → i < j → j ≤ length xs → is_met clip (chunk h i at (get_or xs i 0)) ≡ false
    → filter (is_met clip) (lay h (i + 1) (at + get_or xs i 0) (slice_range xs (i + 1) j)) ≡ filter (is_met clip) (lay h i at (slice_range xs i j))
chunk_passed clip h xs i j at l n t =
    let x = get_or xs i 0 in
    let more = lay h (i + 1) (at + x) (slice_range xs (i + 1) j) in
    sym (ap (λ (ys : List ℕ). filter (is_met clip) (lay h i at ys)) (range-first xs i j l n) ∙ filter-no (is_met clip) (chunk h i at x) more t)

pub chunk_met : (clip : Interval) (h : List ℕ) (xs : List ℕ) (i j at : ℕ) → i < j → j ≤ length xs → is_met clip (chunk h i at (get_or xs i 0)) ≡ true
    → chunk h i at (get_or xs i 0) ∷ filter (is_met clip) (lay h (i + 1) (at + get_or xs i 0) (slice_range xs (i + 1) j)) ≡ filter (is_met clip) (lay h i at (slice_range xs i j))
chunk_met clip h xs i j at l n t =
    let x = get_or xs i 0 in
    let more = lay h (i + 1) (at + x) (slice_range xs (i + 1) j) in
    sym (ap (λ (ys : List ℕ). filter (is_met clip) (lay h i at ys)) (range-first xs i j l n) ∙ filter-yes (is_met clip) (chunk h i at x) more t)

pub span_push : (cs : List Chunk) (c : Chunk) → (span cs).end ≤ c.number → (span (cs ++ c ∷ [])).end ≤ c.number + 1
span_push [] c h = omega arith
span_push (d ∷ ds) c h = omega (arith, h, length-append ds (c ∷ []))

pub sum_first : (c : Chunk) (cs : List Chunk) → sum_by (λ (x : Chunk). x.length) (c ∷ cs) ≡ c.length + sum_by (λ (x : Chunk). x.length) cs
sum_first c cs = sum_by-cons (λ (x : Chunk). x.length) c cs
