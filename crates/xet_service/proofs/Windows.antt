-- A window of a text: less its first bytes, and up to so many.
use Rattle.std.proofs.Common.{◌≡◌, ℕ, ◌+◌, ◌-◌, ◌<◌, ◌≤◌, min, List, [], ◌∷◌, ◌++◌, length, take, drop, Option, Some, None, refl, sym, ap, subst, ◌∙◌, arith}
use Rattle.std.specs.List.{concat}
use Rattle.std.proofs.lemmas.List.{length-drop, length-take, take_all, take_min, drop_min}
use Rattle.xet_store.specs.Plans.{cut_to}
use Rattle.xet_service.specs.Gathering.{taken}
use Rattle.xet_service.specs.PieceWalks.{Walking, walking, IsNext}
use Rattle.xet_service.proofs.Gathered.{cut_parts}

-- the window of a text of so many bytes is what is asked of it
of_rest : (left : Option ℕ) (rest : ℕ) (text : List ℕ) → length text ≡ rest → take (taken rest left) text ≡ cut_to left text
of_rest None rest text long = take_all rest text (omega (arith, long))
of_rest (Some n) rest text long = ap (λ (k : ℕ). take (min n k) text) (sym long) ∙ take_min n text

pub is_window : (total offset skip rest : ℕ) (left : Option ℕ) (text : List ℕ) → length text ≡ total → skip ≡ min offset total → rest ≡ total - skip → take (taken rest left) (drop skip text) ≡ cut_to left (drop offset text)
is_window total offset skip rest left text long skip_is rest_is =
    let front : drop skip text ≡ drop offset text = ap (λ (k : ℕ). drop k text) (skip_is ∙ ap (min offset) (sym long)) ∙ drop_min offset text in
    ap (take (taken rest left)) front ∙ of_rest left rest (drop offset text) (omega (arith, length-drop offset text, long, skip_is, rest_is))

-- a window of one text behind another
pub window_parts : (left skip : ℕ) (a b : List ℕ) → take left (drop skip (a ++ b)) ≡ take left (drop skip a) ++ take (left - length (take left (drop skip a))) (drop (skip - length a) b)
window_parts left skip a b =
    let same : left - (length a - skip) ≡ left - length (take left (drop skip a)) = omega (arith, length-take left (drop skip a), length-drop skip a) in
    cut_parts (Some left) skip a b ∙ ap (λ (n : ℕ). take left (drop skip a) ++ take n (drop (skip - length a) b)) same

-- what is cut of one text, as its bytes are cut
pub cut_is : (text : List ℕ) (skip left m n : ℕ) → m ≡ min skip (length text) → n ≡ min left (length (take (length text - m) (drop m text))) → take n (take (length text - m) (drop m text)) ≡ take left (drop skip text)
cut_is text skip left m n m_is n_is =
    let behind : take (length text - m) (drop m text) ≡ drop skip text = take_all (length text - m) (drop m text) (omega (arith, length-drop m text)) ∙ ap (λ (k : ℕ). drop k text) m_is ∙ drop_min skip text in
    ap (λ (t : List ℕ). take n t) behind ∙ ap (λ (k : ℕ). take k (drop skip text)) (n_is ∙ ap (λ (t : List ℕ). min left (length t)) behind) ∙ take_min left (drop skip text)

no_items : (xs : List (List ℕ)) → length xs ≡ 0 → xs ≡ []
no_items [] e = refl
no_items (x ∷ xs) e = absurd (omega (arith, e))

-- the next chunk of a walk, where no pieces are left before it
pub next_chunk : (old : Walking) (pieces chunks rest : List (List ℕ)) (chunk part : List ℕ) (skip left skip_after left_after : ℕ) → walking pieces chunks skip left ≡ old → length pieces ≡ 0 → chunks ≡ chunk ∷ rest → part ≡ take left (drop skip chunk)
    → skip_after ≡ skip - length chunk → left_after ≡ left - length part → IsNext old part (walking pieces rest skip_after left_after)
next_chunk old pieces chunks rest chunk part skip left skip_after left_after is none more part_is skip_is left_is =
    subst (λ (w : Walking). IsNext w part (walking pieces rest skip_after left_after)) is (rw (no_items pieces none, more, skip_is, left_is, part_is) (record {
      bytes = window_parts left skip chunk (concat rest);
      fewer = omega arith;
    }))
