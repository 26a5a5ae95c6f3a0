-- Parts of lists.
use Rattle.std.proofs.Common.{◌≡◌, ℕ, ◌+◌, ◌-◌, ◌≤◌, ◌<◌, List, [], ◌++◌, length, map, take, drop, slice_range, min, sym, ap, ◌∙◌, inl, inr, arith}
use Rattle.std.proofs.lemmas.Bool.{cases_lt}
use Rattle.std.proofs.lemmas.List.{length-drop, take-map, drop-map, take_all, drop_all, drop-append-le, take-append-le}
use Rattle.std.proofs.Math.Seq.{take-add, take-nil, drop-append-add}

-- a part whose ends are clipped to the list
pub clipped : {X : Type 0} (xs : List X) (s e s' e' : ℕ) → e' ≡ min e (length xs) → s' ≡ min s e' → slice_range xs s' e' ≡ slice_range xs s e
clipped xs s e s' e' is is' =
    elim (cases_lt (length xs) e) as (λ _. slice_range xs s' e' ≡ slice_range xs s e) [
      | inl l ↦ past l
      | inr l ↦ within l
    ]
  where
    starts : s' ≡ s → e' - s' ≡ e - s → slice_range xs s' e' ≡ slice_range xs s e
    starts same len = ap (λ n. take n (drop s' xs)) len ∙ ap (λ n. take (e - s) (drop n xs)) same

    none : e' - s' ≡ 0 → e - s ≡ 0 → slice_range xs s' e' ≡ slice_range xs s e
    none a b = ap (λ n. take n (drop s' xs)) a ∙ sym (ap (λ n. take n (drop s xs)) b)

    within : e ≤ length xs → slice_range xs s' e' ≡ slice_range xs s e
    within l =
        elim (cases_lt e s) as (λ _. slice_range xs s' e' ≡ slice_range xs s e) [
          | inl m ↦ none (omega (arith, is, is', l, m)) (omega (arith, m))
          | inr m ↦ starts (omega (arith, is, is', l, m)) (omega (arith, is, is', l, m))
        ]

    past : length xs < e → slice_range xs s' e' ≡ slice_range xs s e
    past l =
        elim (cases_lt (length xs) s) as (λ _. slice_range xs s' e' ≡ slice_range xs s e) [
          | inl m ↦
              (let gone : drop s xs ≡ [] = drop_all s xs (omega (arith, m)) in
              ap (λ n. take n (drop s' xs)) (let z : e' - s' ≡ 0 = omega (arith, is, is', l, m) in z) ∙ sym (ap (take (e - s)) gone ∙ take-nil (e - s)))
          | inr m ↦
              (let from : s' ≡ s = omega (arith, is, is', l, m) in
              let long = length-drop s xs in
              ap (λ n. take (e' - s') (drop n xs)) from ∙ take_all (e' - s') (drop s xs) (omega (arith, long, is, is', l, m)) ∙ sym (take_all (e - s) (drop s xs) (omega (arith, long, l))))
        ]

-- a part of what is computed of each element
pub slice_range-map : {X Y : Type 0} (f : X → Y) (xs : List X) (a b : ℕ) → slice_range (map f xs) a b ≡ map f (slice_range xs a b)
slice_range-map f xs a b = ap (take (b - a)) (drop-map f a xs) ∙ take-map f (b - a) (drop a xs)

pub take_split : {X : Type 0} (xs : List X) (a b : ℕ) → a ≤ b → take b xs ≡ take a xs ++ slice_range xs a b
take_split xs a b l = ap (λ n. take n xs) (let e : b ≡ a + (b - a) = omega (arith, l) in e) ∙ take-add a (b - a) xs

-- a part of three
pub inner : (pre mid post : List ℕ) (start end : ℕ) → length pre ≤ start → start ≤ end → end ≤ length pre + length mid → slice_range (pre ++ (mid ++ post)) start end ≡ slice_range mid (start - length pre) (end - length pre)
inner pre mid post start end low order high =
    let j = start - length pre in
    let n : end - start ≡ end - length pre - j = omega (arith, low, order) in
    let fits : j ≤ length mid = omega (arith, low, order, high) in
    let long = length-drop j mid in
    ap (λ k. take (end - start) (drop k (pre ++ (mid ++ post)))) (let e : start ≡ length pre + j = omega (arith, low) in e)
    ∙ ap (take (end - start)) (drop-append-add pre (mid ++ post) j ∙ drop-append-le j mid post fits)
    ∙ take-append-le (end - start) (drop j mid) post (omega (arith, long, low, order, high))
    ∙ ap (λ k. take k (drop j mid)) n
