-- Chunks laid down one behind the other.
use Rattle.std.proofs.Common.{◌≡◌, ◌∙◌, ℕ, ◌+◌, ◌-◌, ◌<◌, ◌≤◌, List, [], ◌∷◌, ◌++◌, length, get_or, take, drop, sum, filter, slice_range, refl, ap, sym, arith, suc, true, false, Bool, ◌⊎◌, inl, inr}
use Rattle.std.proofs.lemmas.List.{drop_more, drop-drop, append_assoc, length-drop, length-take}
use Rattle.std.proofs.lemmas.List.Sums.{sum_by-cons, sum_by-append, sum_by_push, sum_by_more}
use Rattle.std.proofs.lemmas.List.Edits.{between_more, between_none}
use Rattle.std.proofs.lemmas.Bool.Decides.{nat_tests}
use Rattle.std.proofs.lemmas.Bool.{cases_lt}
use Rattle.std.proofs.Math.Seq.{take-add}
use Rattle.std.specs.List.{AllByRecursion, All}
use Rattle.std.proofs.lemmas.List.Elements.{recursion_from_All, All-take, All-drop, filter-append}
use Rattle.xet_plan.specs.Places.{Interval}
use Rattle.xet_plan.specs.MetChunks.{Chunk, chunk, lay, is_met}

pub range-none : (xs : List ℕ) (i : ℕ) → slice_range xs i i ≡ []
range-none xs i = between_none xs i

pub range-first : (xs : List ℕ) (i j : ℕ) → i < j → j ≤ length xs → slice_range xs i j ≡ get_or xs i 0 ∷ slice_range xs (i + 1) j
range-first xs i j h l =
    let e : drop i xs ≡ get_or xs i 0 ∷ drop (i + 1) xs = drop_more xs i 0 (omega arith) in
    let n : j - i ≡ suc (j - (i + 1)) = omega arith in
    rw (e, n) refl

pub range-last : (xs : List ℕ) (i j : ℕ) → i ≤ j → j < length xs → slice_range xs i (j + 1) ≡ slice_range xs i j ++ get_or xs j 0 ∷ []
range-last xs i j h l = between_more xs i j 0 h l

pub sum_range_first : (xs : List ℕ) (i j : ℕ) → i < j → j ≤ length xs → sum (slice_range xs i j) ≡ get_or xs i 0 + sum (slice_range xs (i + 1) j)
sum_range_first xs i j h l = rw (range-first xs i j h l) (sum_by-cons (λ (x : ℕ). x) (get_or xs i 0) (slice_range xs (i + 1) j))

pub sum_range_last : (xs : List ℕ) (i j : ℕ) → i ≤ j → j < length xs → sum (slice_range xs i (j + 1)) ≡ sum (slice_range xs i j) + get_or xs j 0
sum_range_last xs i j h l = rw (range-last xs i j h l) (sum_by_push (λ (x : ℕ). x) (slice_range xs i j) (get_or xs j 0))

pub sum-range : (xs : List ℕ) (i j : ℕ) → i ≤ j → sum (take i xs) + sum (slice_range xs i j) ≡ sum (take j xs)
sum-range xs i j h =
    let n : j ≡ i + (j - i) = omega arith in
    sym (ap (λ (k : ℕ). sum (take k xs)) n ∙ ap sum (take-add i (j - i) xs) ∙ sum_by-append (λ (x : ℕ). x) (take i xs) (slice_range xs i j))

pub sum-cons : (x : ℕ) (xs : List ℕ) → sum (x ∷ xs) ≡ x + sum xs
sum-cons x xs = sum_by-cons (λ (y : ℕ). y) x xs

pub lay-append : (h : List ℕ) (n at : ℕ) (xs ys : List ℕ) → lay h n at (xs ++ ys) ≡ lay h n at xs ++ lay h (n + length xs) (at + sum xs) ys
lay-append h n at [] ys = let a : n + 0 ≡ n = omega arith in let b : at + 0 ≡ at = omega arith in rw (a, b) refl
lay-append h n at (x ∷ xs) ys =
    let ih : lay h (n + 1) (at + x) (xs ++ ys) ≡ lay h (n + 1) (at + x) xs ++ lay h (n + 1 + length xs) (at + x + sum xs) ys = lay-append h (n + 1) (at + x) xs ys in
    let a : n + 1 + length xs ≡ n + length (x ∷ xs) = omega arith in
    let b : at + x + sum xs ≡ at + sum (x ∷ xs) = omega (arith, sum-cons x xs) in
    let c : lay h (n + 1 + length xs) (at + x + sum xs) ys ≡ lay h (n + length (x ∷ xs)) (at + sum (x ∷ xs)) ys = ap (λ (k : ℕ). lay h k (at + x + sum xs) ys) a ∙ ap (λ (k : ℕ). lay h (n + length (x ∷ xs)) k ys) b in
    ap (λ (cs : List Chunk). chunk h n at x ∷ cs) (ih ∙ ap (λ (cs : List Chunk). lay h (n + 1) (at + x) xs ++ cs) c)

-- a test of a chunk
pub is_met-no : (clip : Interval) (h : List ℕ) (n at x : ℕ) → (clip.end ≤ at) ⊎ (at + x ≤ clip.start) → is_met clip (chunk h n at x) ≡ false
is_met-no clip h n at x p = grind (arith, nat_tests)

pub is_met-yes : (clip : Interval) (h : List ℕ) (n at x : ℕ) → 0 < x → clip.start < at + x → at < clip.end → clip.start < clip.end → is_met clip (chunk h n at x) ≡ true
is_met-yes clip h n at x p q r s = grind (arith, nat_tests)

pub filter-no : {X : Type 0} (p : X → Bool) (x : X) (xs : List X) → p x ≡ false → filter p (x ∷ xs) ≡ filter p xs
filter-no p x xs e = rw e refl

pub filter-yes : {X : Type 0} (p : X → Bool) (x : X) (xs : List X) → p x ≡ true → filter p (x ∷ xs) ≡ x ∷ filter p xs
filter-yes p x xs e = rw e refl

-- nothing that begins past the interval meets it
pub none_past : (clip : Interval) (h : List ℕ) (n at : ℕ) (xs : List ℕ) → clip.end ≤ at → filter (is_met clip) (lay h n at xs) ≡ []
none_past clip h n at [] p = refl
none_past clip h n at (x ∷ xs) p = filter-no (is_met clip) (chunk h n at x) (lay h (n + 1) (at + x) xs) (is_met-no clip h n at x (inl p)) ∙ none_past clip h (n + 1) (at + x) xs (omega arith)

-- nothing that ends before the interval meets it
none_before : (clip : Interval) (h : List ℕ) (n at : ℕ) (xs : List ℕ) → at + sum xs ≤ clip.start → filter (is_met clip) (lay h n at xs) ≡ []
none_before clip h n at [] p = refl
none_before clip h n at (x ∷ xs) p =
    let total : sum (x ∷ xs) ≡ x + sum xs = sum-cons x xs in
    filter-no (is_met clip) (chunk h n at x) (lay h (n + 1) (at + x) xs) (is_met-no clip h n at x (inr (omega (arith, p, total))))
    ∙ none_before clip h (n + 1) (at + x) xs (omega (arith, p, total))

-- a range in two parts
range-append : (xs : List ℕ) (i j k : ℕ) → i ≤ j → j ≤ k → slice_range xs i k ≡ slice_range xs i j ++ slice_range xs j k
range-append xs i j k l m =
    let whole : k - i ≡ (j - i) + (k - j) = omega arith in
    let rest : drop (j - i) (drop i xs) ≡ drop j xs = drop-drop (j - i) i xs ∙ ap (λ (n : ℕ). drop n xs) (omega (arith, l)) in
    ap (λ (n : ℕ). take n (drop i xs)) whole ∙ take-add (j - i) (k - j) (drop i xs) ∙ ap (λ (ys : List ℕ). take (j - i) (drop i xs) ++ take (k - j) ys) rest

-- a step past chunks that end before the interval
pub skip_to : (clip : Interval) (h : List ℕ) (xs : List ℕ) (i j k at : ℕ) → i ≤ j → j ≤ k → k ≤ length xs → at + sum (slice_range xs i j) ≤ clip.start
    → filter (is_met clip) (lay h j (at + sum (slice_range xs i j)) (slice_range xs j k)) ≡ filter (is_met clip) (lay h i at (slice_range xs i k))
skip_to clip h xs i j k at l m n p =
    let front = slice_range xs i j in
    let back = slice_range xs j k in
    let len : length front ≡ j - i = omega (arith, length-take (j - i) (drop i xs), length-drop i xs) in
    let from : i + length front ≡ j = omega arith in
    let laid : lay h i at (slice_range xs i k) ≡ lay h i at front ++ lay h j (at + sum front) back =
    ap (lay h i at) (range-append xs i j k l m) ∙ lay-append h i at front back ∙ ap (λ (number : ℕ). lay h i at front ++ lay h number (at + sum front) back) from in
    sym
    (ap (filter (is_met clip)) laid
    ∙ filter-append (is_met clip) (lay h i at front) (lay h j (at + sum front) back)
    ∙ ap (λ (cs : List Chunk). cs ++ filter (is_met clip) (lay h j (at + sum front) back)) (none_before clip h i at front p))

-- a step over a chunk that meets the interval
pub run_more : (clip : Interval) (h : List ℕ) (xs : List ℕ) (i k j at to : ℕ) → i ≤ k → k < j → j ≤ length xs → to ≡ at + sum (slice_range xs i k)
    → is_met clip (chunk h k to (get_or xs k 0)) ≡ true
    → lay h i at (slice_range xs i (k + 1)) ++ filter (is_met clip) (lay h (k + 1) (to + get_or xs k 0) (slice_range xs (k + 1) j)) ≡ lay h i at (slice_range xs i k) ++ filter (is_met clip) (lay h k to (slice_range xs k j))
run_more clip h xs i k j at to l m n e t =
    let x = get_or xs k 0 in
    let len : length (slice_range xs i k) ≡ k - i = omega (arith, length-take (k - i) (drop i xs), length-drop i xs) in
    let more = lay h (k + 1) (to + x) (slice_range xs (k + 1) j) in
    let step : lay h i at (slice_range xs i (k + 1)) ≡ lay h i at (slice_range xs i k) ++ (chunk h k to x ∷ []) =
    ap (lay h i at) (range-last xs i k l (omega arith)) ∙ lay-append h i at (slice_range xs i k) (x ∷ [])
    ∙ ap (λ (p : ℕ). lay h i at (slice_range xs i k) ++ lay h p (at + sum (slice_range xs i k)) (x ∷ [])) (omega arith)
    ∙ ap (λ (p : ℕ). lay h i at (slice_range xs i k) ++ lay h k p (x ∷ [])) (sym e) in
    let all : filter (is_met clip) (lay h k to (slice_range xs k j)) ≡ chunk h k to x ∷ filter (is_met clip) more =
    ap (λ (ys : List ℕ). filter (is_met clip) (lay h k to ys)) (range-first xs k j m n) ∙ filter-yes (is_met clip) (chunk h k to x) more t in
    ap (λ (cs : List Chunk). cs ++ filter (is_met clip) more) step ∙ append_assoc (lay h i at (slice_range xs i k)) (chunk h k to x ∷ []) (filter (is_met clip) more)
    ∙ ap (λ (cs : List Chunk). lay h i at (slice_range xs i k) ++ cs) (sym all)

pub sum_more : (xs : List ℕ) (i : ℕ) → i < length xs → sum (take (i + 1) xs) ≡ sum (take i xs) + get_or xs i 0
sum_more xs i h = sum_by_more (λ (x : ℕ). x) xs i 0 h

-- past the first chunk's end, whatever chunk comes next
pub run_past : (xs : List ℕ) (i k s at to : ℕ) → i ≤ k → k < length xs → to ≡ at + sum (slice_range xs i k) → s < at + get_or xs i 0 → s < to + get_or xs k 0
run_past xs i k s at to l m e p = elim (cases_lt i k) as (λ _. s < to + get_or xs k 0) [
  | inl h ↦ omega (arith, sum_range_first xs i k h (omega arith))
  | inr h ↦
      let same : k ≡ i = omega arith in
      let x : get_or xs k 0 ≡ get_or xs i 0 = ap (λ (n : ℕ). get_or xs n 0) same in
      omega arith
]

pub sum-range-range : (xs : List ℕ) (i j k : ℕ) → i ≤ j → j ≤ k → sum (slice_range xs i j) + sum (slice_range xs j k) ≡ sum (slice_range xs i k)
sum-range-range xs i j k l m = omega (arith, sum-range xs i j l, sum-range xs j k m, sum-range xs i k (omega arith))

-- of chunks inside the interval each meets it
all_inside : (clip : Interval) (h : List ℕ) (n at : ℕ) (xs : List ℕ) → AllByRecursion (λ x. 0 < x) xs → clip.start < at → clip.start < clip.end → at + sum xs ≤ clip.end → filter (is_met clip) (lay h n at xs) ≡ lay h n at xs
all_inside clip h n at [] p s o e = refl
all_inside clip h n at (x ∷ xs) p s o e =
    let t : is_met clip (chunk h n at x) ≡ true = is_met-yes clip h n at x p.0 (omega arith) (omega (arith, p.0, sum-cons x xs)) o in
    filter-yes (is_met clip) (chunk h n at x) (lay h (n + 1) (at + x) xs) t
    ∙ ap (λ (cs : List Chunk). chunk h n at x ∷ cs) (all_inside clip h (n + 1) (at + x) xs p.1 (omega arith) o (omega (arith, sum-cons x xs)))

-- the same where the first of them may begin before the interval
pub all_met : (clip : Interval) (h : List ℕ) (xs : List ℕ) (i j at : ℕ) → i ≤ j → j ≤ length xs → All (λ x. 0 < x) xs → clip.start < clip.end → (i < j → clip.start < at + get_or xs i 0) → at + sum (slice_range xs i j) ≤ clip.end
    → filter (is_met clip) (lay h i at (slice_range xs i j)) ≡ lay h i at (slice_range xs i j)
all_met clip h xs i j at l n p o s e = elim (cases_lt i j) as (λ _. filter (is_met clip) (lay h i at (slice_range xs i j)) ≡ lay h i at (slice_range xs i j)) [
  | inl m ↦
      (let x = get_or xs i 0 in
      let ys = slice_range xs (i + 1) j in
      let first : slice_range xs i j ≡ x ∷ ys = range-first xs i j m n in
      let sums : sum (slice_range xs i j) ≡ x + sum ys = sum_range_first xs i j m n in
      let positive : AllByRecursion (λ x. 0 < x) ys = recursion_from_All (λ x. 0 < x) ys (All-take (λ x. 0 < x) (j - (i + 1)) (drop (i + 1) xs) (All-drop (λ x. 0 < x) (i + 1) xs p)) in
      let some : 0 < x = p i 0 (omega arith) in
      let t : is_met clip (chunk h i at x) ≡ true = is_met-yes clip h i at x some (s m) (omega arith) o in
      rw first
      (filter-yes (is_met clip) (chunk h i at x) (lay h (i + 1) (at + x) ys) t
      ∙ ap (λ (cs : List Chunk). chunk h i at x ∷ cs) (all_inside clip h (i + 1) (at + x) ys positive (s m) o (omega arith))))
  | inr m ↦
      (let same : j ≡ i = omega arith in
      rw (same, range-none xs i) refl)
]
