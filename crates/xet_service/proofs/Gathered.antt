-- Texts that come one after another are gathered as one.
use Rattle.std.proofs.Common.{◌≡◌, ℕ, zero, suc, ◌+◌, ◌-◌, min, List, [], ◌∷◌, ◌++◌, length, take, drop, Option, Some, None, refl, sym, ap, ◌∙◌, arith, append_assoc}
use Rattle.std.proofs.lemmas.List.{append-nil, length-append, length-drop, drop_min}
use Rattle.std.proofs.Math.Seq.{drop-nil, take-nil}
use Rattle.bytes.proofs.Chunks.{drop-append_min}
use Rattle.xet_store.specs.Plans.{cut_to}
use Rattle.xet_service.specs.Gathering.{Gathered, less, after_text}

drop_over : (n : ℕ) (a b : List ℕ) → drop n (a ++ b) ≡ drop n a ++ drop (n - length a) b
drop_over n a b =
    let e : n - min n (length a) ≡ n - length a = omega arith in
    drop-append_min a b n ∙ ap (λ (xs : List ℕ). xs ++ drop (n - min n (length a)) b) (drop_min n a) ∙ ap (λ k. drop n a ++ drop k b) e

take_over : (n : ℕ) (a b : List ℕ) → take n (a ++ b) ≡ take n a ++ take (n - length a) b
take_over n [] b = let e : n ≡ n - 0 = omega arith in ap (λ k. take k b) e ∙ ap (λ (xs : List ℕ). xs ++ take (n - 0) b) (sym (take-nil n))
take_over zero (x ∷ a) b = let e : 0 ≡ 0 - suc (length a) = omega arith in ap (λ k. take k b) e
take_over (suc n) (x ∷ a) b =
    let e : n - length a ≡ suc n - suc (length a) = omega arith in
    ap (λ (xs : List ℕ). x ∷ xs) (take_over n a b ∙ ap (λ k. take n a ++ take k b) e)

cut_over : (left : Option ℕ) (a b : List ℕ) → cut_to left (a ++ b) ≡ cut_to left a ++ cut_to (less left (length a)) b
cut_over None a b = refl
cut_over (Some n) a b = take_over n a b

less_twice : (left : Option ℕ) (m n k : ℕ) → m + n ≡ k → less (less left m) n ≡ less left k
less_twice None m n k e = refl
less_twice (Some l) m n k e = let d : l - m - n ≡ l - k = omega (arith, e) in ap (λ (i : ℕ). Some i) d

abbrev gathered : List ℕ → ℕ → Option ℕ → Gathered
gathered bytes skip left = record { bytes = bytes; skip = skip; left = left }

alike : (b c : List ℕ) (s t : ℕ) (l m : Option ℕ) → b ≡ c → s ≡ t → l ≡ m → gathered b s l ≡ gathered c t m
alike b c s t l m p q r = ap (λ (x : List ℕ). gathered x s l) p ∙ ap (λ (x : ℕ). gathered c x l) q ∙ ap (λ (x : Option ℕ). gathered c t x) r

-- what is asked of one text behind another
pub cut_parts : (left : Option ℕ) (skip : ℕ) (a b : List ℕ) → cut_to left (drop skip (a ++ b)) ≡ cut_to left (drop skip a) ++ cut_to (less left (length a - skip)) (drop (skip - length a) b)
cut_parts left skip a b =
    ap (λ (xs : List ℕ). cut_to left xs) (drop_over skip a b)
    ∙ cut_over left (drop skip a) (drop (skip - length a) b)
    ∙ ap (λ n. cut_to left (drop skip a) ++ cut_to (less left n) (drop (skip - length a) b)) (length-drop skip a)

pub after_both : (g : Gathered) (a b : List ℕ) → after_text (after_text g a) b ≡ after_text g (a ++ b)
after_both g a b =
    let long = length-append a b in
    let skip : g.skip - length a - length b ≡ g.skip - length (a ++ b) = omega (arith, long) in
    let left : less (less g.left (length a - g.skip)) (length b - (g.skip - length a)) ≡ less g.left (length (a ++ b) - g.skip) =
    less_twice g.left _ _ _ (let e : length a - g.skip + (length b - (g.skip - length a)) ≡ length (a ++ b) - g.skip = omega (arith, long) in e) in
    let bytes : (g.bytes ++ cut_to g.left (drop g.skip a)) ++ cut_to (less g.left (length a - g.skip)) (drop (g.skip - length a) b) ≡ g.bytes ++ cut_to g.left (drop g.skip (a ++ b)) =
    append_assoc g.bytes (cut_to g.left (drop g.skip a)) (cut_to (less g.left (length a - g.skip)) (drop (g.skip - length a) b))
    ∙ ap (λ (xs : List ℕ). g.bytes ++ xs) (sym (cut_parts g.left g.skip a b)) in
    alike _ _ _ _ _ _ bytes skip left

cut_none : (left : Option ℕ) → cut_to left [] ≡ []
cut_none None = refl
cut_none (Some n) = take-nil n

less_none : (left : Option ℕ) (n : ℕ) → less left (0 - n) ≡ left
less_none None n = refl
less_none (Some l) n = let e : l - (0 - n) ≡ l = omega arith in ap (λ (i : ℕ). Some i) e

pub after_none : (g : Gathered) → after_text g [] ≡ g
after_none g =
    let skip : g.skip - 0 ≡ g.skip = omega arith in
    let bytes : g.bytes ++ cut_to g.left (drop g.skip []) ≡ g.bytes =
    ap (λ (xs : List ℕ). g.bytes ++ cut_to g.left xs) (drop-nil g.skip) ∙ ap (λ (xs : List ℕ). g.bytes ++ xs) (cut_none g.left) ∙ append-nil g.bytes in
    alike _ _ _ _ _ _ bytes skip (less_none g.left g.skip)
