-- Terms that are given to a reader's links one after another.
use Rattle.std.proofs.Common.{◌≡◌, ℕ, zero, suc, ◌+◌, ◌<◌, Bool, true, false, eqb, eq-eqb, List, [], ◌∷◌, ◌++◌, Option, Some, None, refl, ap, ◌∙◌, append_assoc, arith}
use Rattle.std.specs.Prelude.{slice_get}
use Rattle.std.specs.List.{filter}
use Rattle.std.proofs.lemmas.Bool.{eqb-true}
use Rattle.std.proofs.lemmas.List.{append-nil}
use Rattle.xet_service.specs.declared.reader.held.HeldTerm.{HeldTerm}
use Rattle.xet_service.specs.declared.reader.link.ReadLink.{ReadLink}
use Rattle.xet_service.specs.ReadingPlans.{is_of_link, with_terms}
use Rattle.xet_service.specs.ReadingSteps.{with_term, give_term}

by_false : (b : Bool) → (b ≡ true → ⊥) → b ≡ false
by_false true h = absurd (h refl)
by_false false h = refl

differ : (a b : ℕ) → (a ≡ b → ⊥) → eqb a b ≡ false
differ a b h = by_false (eqb a b) (λ e. h (eqb-true a b e))

-- the terms of a link before these
passed : (n : ℕ) (ls : List ReadLink) (h : HeldTerm) (hs : List HeldTerm) → h.range.link < n → with_terms n ls (h ∷ hs) ≡ with_terms n ls hs
passed n [] h hs lt = refl
passed n (l ∷ ls) h hs lt =
    let other : is_of_link n h ≡ false = differ h.range.link n (λ e. omega (arith, e, lt)) in
    let rest = passed (suc n) ls h hs (omega (arith, lt)) in
    rw (other, rest) refl

deeper : (l : ReadLink) (ls : List ReadLink) (i : ℕ) (o : Option ReadLink) (h : HeldTerm) → with_term (l ∷ ls) (suc i) o h ≡ l ∷ with_term ls i o h
deeper l ls i None h = refl
deeper l ls i (Some x) h = refl

given : (n i : ℕ) (ls : List ReadLink) (h : HeldTerm) (hs : List HeldTerm) → h.range.link ≡ n + i → with_terms n (with_term ls i (slice_get ls i) h) hs ≡ with_terms n ls (h ∷ hs)
given n i [] h hs e = refl
given n zero (l ∷ ls) h hs e =
    let same : is_of_link n h ≡ true = eq-eqb h.range.link n (omega (arith, e)) in
    let rest = passed (suc n) ls h hs (omega (arith, e)) in
    let held : (l.held ++ h ∷ []) ++ filter (is_of_link n) hs ≡ l.held ++ h ∷ filter (is_of_link n) hs = append_assoc l.held (h ∷ []) (filter (is_of_link n) hs) in
    rw (same, rest, held) refl
given n (suc i) (l ∷ ls) h hs e =
    let other : is_of_link n h ≡ false = differ h.range.link n (λ f. omega (arith, e, f)) in
    let rest = given (suc n) i ls h hs (omega (arith, e)) in
    ap (λ (xs : List ReadLink). with_terms n xs hs) (deeper l ls i (slice_get ls i) h)
    ∙ rw (other, rest) refl

pub gives_one : (ls : List ReadLink) (h : HeldTerm) (hs : List HeldTerm) → with_terms 0 (give_term ls h) hs ≡ with_terms 0 ls (h ∷ hs)
gives_one ls h hs = given 0 h.range.link ls h hs (omega arith)

pub gives_none : (n : ℕ) (ls : List ReadLink) → with_terms n ls [] ≡ ls
gives_none n [] = refl
gives_none n (l ∷ ls) = rw (append-nil l.held, gives_none (suc n) ls) refl
