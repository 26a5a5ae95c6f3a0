-- A text is cut at its last byte c in one way at most.
use Rattle.std.proofs.Common.{◌≡◌, ◌≢◌, ℕ, suc, ◌+◌, ◌<◌, List, [], ◌∷◌, ◌++◌, length, get_or, take, drop, Some, None, refl, sym, ap, ◌∙◌, arith, length-append, length-drop, add-one, drop-cons, eq-eqb}
use Rattle.std.proofs.lemmas.List.{take-append-drop, get_or-drop, get_or_default}
use Rattle.std.specs.List.{All}
use Rattle.std.proofs.lemmas.Bool.{eqb-true}
use Rattle.memchr.specs.Find.{IsLastByte, is_byte}
use Rattle.xet_types.specs.Keys.{IsCutAtLast}

-- c stands between the two parts
cut_byte : (c : ℕ) (before after : List ℕ) → get_or (before ++ c ∷ after) (length before) 0 ≡ c
cut_byte c [] after = refl
cut_byte c (b ∷ before) after = cut_byte c before after

cut_place : (c : ℕ) (before after : List ℕ) → length before < length (before ++ c ∷ after)
cut_place c before after = omega (arith, length-append before (c ∷ after))

-- so it is in the whole
pub cut_is_there : (c : ℕ) (text before after : List ℕ) → IsCutAtLast c text before after → (length before < length text) × (get_or text (length before) 0 ≡ c)
cut_is_there c text before after cut = rw cut.parts (cut_place c before after, cut_byte c before after)

same_after : (c : ℕ) (b a d e : List ℕ) → All (λ x. x ≢ c) a → All (λ x. x ≢ c) e → b ++ c ∷ a ≡ d ++ c ∷ e → a ≡ e
same_after c [] a [] e f g h = cc
same_after c [] a (x ∷ d) e f g h =
    let rest : a ≡ d ++ c ∷ e = cc in
    absurd (f (length d) 0 (rw rest (cut_place c d e)) (rw rest (cut_byte c d e)))
same_after c (x ∷ b) a [] e f g h =
    let rest : e ≡ b ++ c ∷ a = cc in
    absurd (g (length b) 0 (rw rest (cut_place c b a)) (rw rest (cut_byte c b a)))
same_after c (x ∷ b) a (y ∷ d) e f g h =
    let rest : b ++ c ∷ a ≡ d ++ c ∷ e = cc in
    same_after c b a d e f g rest

pub cut_after : (c : ℕ) (text b a d e : List ℕ) → IsCutAtLast c text b a → IsCutAtLast c text d e → a ≡ e
cut_after c text b a d e p q = same_after c b a d e p.last q.last (sym p.parts ∙ q.parts)

-- the last place of c cuts the text
pub cut_at_last : (c : ℕ) (text : List ℕ) (at : ℕ) → IsLastByte (is_byte c) text (Some at) → IsCutAtLast c text (take at text) (drop (at + 1) text)
cut_at_last c text at found = record {
  parts =
      let here : get_or text at 0 ≡ c = eqb-true (get_or text at 0) c found.1 in
      let cons : drop at text ≡ c ∷ drop (at + 1) text = rw add-one (drop-cons text at 0 found.0.high ∙ ap (λ (x : ℕ). x ∷ drop (suc at) text) here) in
      sym (take-append-drop at text) ∙ ap (λ (t : List ℕ). take at text ++ t) cons;
  last = λ k d lt e.
      let within : at + 1 + k < length text = omega (arith, length-drop (at + 1) text) in
      let place : get_or text (at + 1 + k) 0 ≡ c = get_or_default text (at + 1 + k) 0 d within ∙ sym (get_or-drop (at + 1) text k d) ∙ e in
      found.0.after (at + 1 + k) (omega arith) within (eq-eqb (get_or text (at + 1 + k) 0) c place);
}

-- and where c stands nowhere, nothing does
pub no_cut : (c : ℕ) (text before after : List ℕ) → IsLastByte (is_byte c) text None → IsCutAtLast c text before after → ⊥
no_cut c text before after nowhere cut =
    let there = cut_is_there c text before after cut in
    nowhere (length before) (omega arith) there.0 (eq-eqb (get_or text (length before) 0) c there.1)
