-- A word in a text: where it first stands, and what follows from one that can't overlap itself.
use Rattle.std.proofs.Common.{◌≡◌, ◌⊎◌, inl, inr, ℕ, ◌+◌, ◌<◌, ◌≤◌, List, [], ◌∷◌, ◌++◌, length, take, drop, Some, None, refl, sym, ap, ◌∙◌, arith, length-append}
use Rattle.std.proofs.lemmas.Bool.{cases_lt}
use Rattle.std.proofs.lemmas.List.{take-append-drop, length-take-le, append_cancel_left, take_at, drop_at}
use Rattle.memchr.specs.Find.{OccursAt, FindsNeedle}
use Rattle.memchr.proofs.lemmas.MatchLemmas.{OccursAt-split, OccursAt-from_part}
use Rattle.xet_wire.specs.Texts.{Lacks}
use Rattle.xet_wire.specs.Multipart.{StandsIn, IsCutAround, IsUpTo}
use Rattle.xet_wire.proofs.Marks.{Lacks-head, Lacks-tail}

-- what stands in a text is found there, and what is found stands there
pub stands_at : (text word : List ℕ) (k : ℕ) → OccursAt text word k → text ≡ take k text ++ (word ++ drop (k + length word) text)
stands_at text word k occurs = sym (take-append-drop k text) ∙ ap (λ (t : List ℕ). take k text ++ t) (OccursAt-split text word k occurs)

pub occurs_there : (text word b a : List ℕ) → text ≡ b ++ (word ++ a) → OccursAt text word (length b)
occurs_there text word b a e =
    let there : take (length word) (drop (length b) (b ++ (word ++ a))) ≡ word = rw (drop_at b (word ++ a) (length b) refl) (take_at word a (length word) refl) in
    rw e (OccursAt-from_part (b ++ (word ++ a)) word (length b) (omega (arith, length-append b (word ++ a), length-append word a)) there)

-- what the first place that is found cuts
pub cut_found : (text word : List ℕ) (k : ℕ) → FindsNeedle text word 0 (Some k) → IsCutAround word text (take k text) (drop (k + length word) text)
cut_found text word k found = record {
  parts = stands_at text word k found.1;
  first = λ b a e. not_before (length b) (occurs_there text word b a e) (cases_lt (length b) k);
}
  where
    not_before : (n : ℕ) → OccursAt text word n → (n < k) ⊎ (k ≤ n) → length (take k text) ≤ n
    not_before n occurs (inl less) = absurd (found.0.before n (omega arith) less occurs)
    not_before n occurs (inr most) = let fits = found.1.fits in omega (arith, fits, most, length-take-le k text (omega (arith, fits)))

-- where none is found the word doesn't stand
pub stands_nowhere : (text word : List ℕ) → FindsNeedle text word 0 None → ¬ StandsIn word text
stands_nowhere text word none s =
    let there = occurs_there text word s.before s.after s.parts in
    let fits = there.fits in
    none (length s.before) (omega arith) (omega (arith, fits)) there

pub stands_of : (word text before after : List ℕ) → IsCutAround word text before after → StandsIn word text
stands_of word text before after cut = record { before = before; after = after; parts = cut.parts }

-- the first place cuts a text in one way
same_front : (b a b' a' : List ℕ) → length b ≡ length b' → b ++ a ≡ b' ++ a' → (b ≡ b') × (a ≡ a')
same_front b a b' a' long e =
    let front : b ≡ b' = sym (take_at b a (length b) refl) ∙ ap (λ (t : List ℕ). take (length b) t) e ∙ take_at b' a' (length b) (sym long) in
    (front, sym (drop_at b a (length b) refl) ∙ ap (λ (t : List ℕ). drop (length b) t) e ∙ drop_at b' a' (length b) (sym long))

pub cut_once : (word text b a b' a' : List ℕ) → IsCutAround word text b a → IsCutAround word text b' a' → (b ≡ b') × (a ≡ a')
cut_once word text b a b' a' cut other =
    let low = cut.first b' a' other.parts in
    let high = other.first b a cut.parts in
    let same = same_front b (word ++ a) b' (word ++ a') (omega (arith, low, high)) (sym cut.parts ∙ other.parts) in
    (same.0, append_cancel_left word a a' same.1)

pub up_to_once : (word text b a b' a' : List ℕ) → IsUpTo word text b a → IsUpTo word text b' a' → (b ≡ b') × (a ≡ a')
up_to_once word text b a b' a' (inl cut) (inl other) = cut_once word text b a b' a' cut other
up_to_once word text b a b' a' (inl cut) (inr none) = absurd (none.0 (stands_of word text b a cut))
up_to_once word text b a b' a' (inr none) (inl other) = absurd (none.0 (stands_of word text b' a' other))
up_to_once word text b a b' a' (inr none) (inr other) = (none.1 ∙ sym other.1, none.2 ∙ sym other.2)

-- a byte that a text lacks stands behind it
pub past : (c : ℕ) (w a y z : List ℕ) → Lacks c w → w ++ a ≡ y ++ c ∷ z → (more : List ℕ) × (y ≡ w ++ more) × (a ≡ more ++ c ∷ z)
past c [] a y z lacks e = (y, refl, e)
past c (v ∷ w) a [] z lacks e = absurd (Lacks-head c v w lacks (cc))
past c (v ∷ w) a (u ∷ y) z lacks e =
    let rest : w ++ a ≡ y ++ c ∷ z = cc in
    let p = past c w a y z (Lacks-tail c v w lacks) rest in
    let head : v ≡ u = cc in
    let is : y ≡ w ++ p.0 = p.1 in
    (p.0, cc, p.2)

-- a word whose first byte stands in it once stands twice in a text only apart
abbrev pub Apart : List ℕ → List ℕ → List ℕ → List ℕ → List ℕ → Type 0
Apart word b a b' a' = ((b ≡ b') × (a ≡ a')) ⊎ ((more : List ℕ) × (b' ≡ b ++ (word ++ more)) × (a ≡ more ++ (word ++ a')))

apart_more : (x y : ℕ) (word b a b' a' : List ℕ) → x ≡ y → Apart word b a b' a' → Apart word (x ∷ b) a (y ∷ b') a'
apart_more x y word b a b' a' e (inl same) = inl (rw (e, same.0) refl, same.1)
apart_more x y word b a b' a' e (inr p) = inr (p.0, rw (e, p.1) refl, p.2)

pub apart : (c : ℕ) (w b a b' a' : List ℕ) → Lacks c w → b ++ (c ∷ w ++ a) ≡ b' ++ (c ∷ w ++ a') → length b ≤ length b' → Apart (c ∷ w) b a b' a'
apart c w [] a [] a' lacks e le =
    let rest : w ++ a ≡ w ++ a' = cc in
    inl (refl, append_cancel_left w a a' rest)
apart c w [] a (x ∷ b') a' lacks e le =
    let rest : w ++ a ≡ b' ++ c ∷ (w ++ a') = cc in
    let p = past c w a b' (w ++ a') lacks rest in
    let head : c ≡ x = cc in
    let is : b' ≡ w ++ p.0 = p.1 in
    inr (p.0, cc, p.2)
apart c w (x ∷ b) a [] a' lacks e le = absurd (omega (arith, le))
apart c w (x ∷ b) a (y ∷ b') a' lacks e le =
    let rest : b ++ (c ∷ w ++ a) ≡ b' ++ (c ∷ w ++ a') = cc in
    let head : x ≡ y = cc in
    apart_more x y (c ∷ w) b a b' a' head (apart c w b a b' a' lacks rest (omega (arith, le)))
