-- A body of several parts is read in one way.
use Rattle.std.specs.Prelude.{codes}
use Rattle.std.proofs.Common.{◌≡◌, ◌≢◌, ◌⊎◌, inl, inr, ℕ, suc, ◌<◌, ◌≤◌, Bool, true, false, ◌==◌, List, [], ◌∷◌, ◌++◌, refl, sym, ap, ◌∙◌, arith, subst}
use Rattle.std.specs.List.{All, filter, slice_split}
use Rattle.std.specs.List.Sorted.{IsNonDecreasingBy}
use Rattle.std.specs.Str.{trim}
use Rattle.std.proofs.lemmas.List.{append_cancel_left}
use Rattle.std.proofs.lemmas.Bool.{eqb-true, eqb-false, eq-eqb, cases_lt}
use Rattle.std.proofs.lemmas.List.Elements.{All-head, All-tail, All-cons, All-weaker}
use Rattle.xet_types.specs.declared.range.Range.{Range}
use Rattle.xet_types.specs.declared.range._H.{_H}
use Rattle.xet_wire.specs.Texts.{IsCutAtFirst, IsRangeOf}
use Rattle.xet_wire.specs.Multipart.{Part, IsCutAround, IsUpTo, GivesBoundary, TellsBytes, IsRangeOfTotal, TellsRange, SpellsPart, TakesPart, ArePartsAfter, SpellsMultipart, IsByStart, crlf, delimiter, part_end, lines_of, unquoted, start_of, part}
use Rattle.xet_wire.proofs.Marks.{same_cut}
use Rattle.xet_wire.proofs.Words.{cut_once, up_to_once}
use Rattle.xet_wire.proofs.Lists.{range_once, other}

-- a cut at the first mark is made in one way
first_once : (c : ℕ) (text b a b' a' : List ℕ) → IsCutAtFirst c text b a → IsCutAtFirst c text b' a' → (b ≡ b') × (a ≡ a')
first_once c text b a b' a' cut other = same_cut c b a b' a' cut.first other.first (sym cut.parts ∙ other.parts)

pub boundary_once : (pieces : List (List ℕ)) (a b : List ℕ) → GivesBoundary pieces a → GivesBoundary pieces b → a ≡ b
boundary_once [] a b g h = absurd g
boundary_once (piece ∷ pieces) a b (inl g) (inl h) =
    let same : g.0 ≡ h.0 = append_cancel_left (codes "boundary=") g.0 h.0 (sym g.1 ∙ h.1) in
    g.2 ∙ ap unquoted same ∙ sym h.2
boundary_once (piece ∷ pieces) a b (inl g) (inr h) = absurd (h.0 g.0 g.1)
boundary_once (piece ∷ pieces) a b (inr g) (inl h) = absurd (g.0 h.0 h.1)
boundary_once (piece ∷ pieces) a b (inr g) (inr h) = boundary_once pieces a b g.1 h.1

pub bytes_once : (line a b : List ℕ) → TellsBytes line a → TellsBytes line b → a ≡ b
bytes_once line a b g h =
    let value : g.value ≡ h.value = (first_once 58 line g.header.written g.value h.header.written h.value g.header.cut h.header.cut).1 in
    let cut : IsCutAtFirst 32 (trim h.value) g.unit.written a = subst (λ (t : List ℕ). IsCutAtFirst 32 (trim t) g.unit.written a) value g.unit.cut in
    (first_once 32 (trim h.value) g.unit.written a h.unit.written b cut h.unit.cut).1

pub total_once : (text : List ℕ) (a b : Range ℕ _H) → IsRangeOfTotal text a → IsRangeOfTotal text b → a ≡ b
total_once text a b g h =
    let spelled : g.spelled ≡ h.spelled = (first_once 47 (trim text) g.spelled g.total h.spelled h.total g.cut h.cut).0 in
    range_once h.spelled a b (subst (λ (t : List ℕ). IsRangeOf t a) spelled g.is) h.is

pub tells_once : (lines : List (List ℕ)) (a b : Range ℕ _H) → TellsRange lines a → TellsRange lines b → a ≡ b
tells_once [] a b g h = absurd g
tells_once (line ∷ lines) a b (inl g) (inl h) =
    let same : g.0 ≡ h.0 = bytes_once line g.0 h.0 g.1 h.1 in
    total_once h.0 a b (subst (λ (t : List ℕ). IsRangeOfTotal t a) same g.2) h.2
tells_once (line ∷ lines) a b (inl g) (inr h) = absurd (h.0 g.0 g.1)
tells_once (line ∷ lines) a b (inr g) (inl h) = absurd (g.0 h.0 h.1)
tells_once (line ∷ lines) a b (inr g) (inr h) = tells_once lines a b g.1 h.1

pub part_once : (text : List ℕ) (p q : Part) → SpellsPart text p → SpellsPart text q → p ≡ q
part_once text p q g h =
    let same = cut_once (crlf ++ crlf) text g.headers p.content h.headers q.content g.cut h.cut in
    let range : p.range ≡ q.range = tells_once (lines_of h.headers) p.range q.range (subst (λ (t : List ℕ). TellsRange (lines_of t) p.range) same.0 g.tells) h.tells in
    ap (λ (r : Range ℕ _H). part r p.content) range ∙ ap (λ (t : List ℕ). part q.range t) same.1

pub takes_once : (end text : List ℕ) (p q : Part) (a b : List ℕ) → TakesPart end text p a → TakesPart end text q b → (p ≡ q) × (a ≡ b)
takes_once end text p q a b g h =
    let rest : g.rest ≡ h.rest = append_cancel_left crlf g.rest h.rest (sym g.begins ∙ h.begins) in
    let same = up_to_once end h.rest g.piece a h.piece b (subst (λ (t : List ℕ). IsUpTo end t g.piece a) rest g.reaches) h.reaches in
    (part_once h.piece p q (subst (λ (t : List ℕ). SpellsPart t p) same.0 g.spelled) h.spelled, same.1)

pub parts_once : (end text : List ℕ) (ps qs : List Part) → ArePartsAfter end text ps → ArePartsAfter end text qs → ps ≡ qs
parts_once end text [] [] g h = refl
parts_once end text [] (q ∷ qs) g h = let takes = h.1 in absurd (g takes.rest takes.begins)
parts_once end text (p ∷ ps) [] g h = let takes = g.1 in absurd (h takes.rest takes.begins)
parts_once end text (p ∷ ps) (q ∷ qs) g h =
    let same = takes_once end text p q g.0 h.0 g.1 h.1 in
    let rest : ps ≡ qs = parts_once end h.0 ps qs (subst (λ (t : List ℕ). ArePartsAfter end t ps) same.1 g.2) h.2 in
    ap (λ (x : Part). x ∷ ps) same.0 ∙ ap (λ (xs : List Part). q ∷ xs) rest

-- a body is these parts in one way
pub spells_once : (content_type body : List ℕ) (ps qs : List Part) → SpellsMultipart content_type body ps → SpellsMultipart content_type body qs → ps ≡ qs
spells_once content_type body ps qs g h =
    let boundary : g.boundary ≡ h.boundary = boundary_once (slice_split (λ b. b == 59) content_type) g.boundary h.boundary g.named h.named in
    let cut : IsCutAround (delimiter h.boundary) body g.before g.after = subst (λ (b : List ℕ). IsCutAround (delimiter b) body g.before g.after) boundary g.cut in
    let same = cut_once (delimiter h.boundary) body g.before g.after h.before h.after cut h.cut in
    let are : ArePartsAfter (part_end h.boundary) g.after ps = subst (λ (b : List ℕ). ArePartsAfter (part_end b) g.after ps) boundary g.are in
    parts_once (part_end h.boundary) h.after ps qs (subst (λ (t : List ℕ). ArePartsAfter (part_end h.boundary) t ps) same.1 are) h.are

-- ORDER

abbrev pub Rises : List Part → Type 0
Rises [] = Unit {0}
Rises (p ∷ ps) = All (λ q. start_of p ≤ start_of q) ps × Rises ps

rises_from : (ps : List Part) → IsNonDecreasingBy start_of ps → Rises ps
rises_from [] rises = tt
rises_from (p ∷ ps) rises =
    (λ k d lt. rises 0 (suc k) d (omega arith) (omega (arith, lt)), rises_from ps (λ i j d le lt. rises (suc i) (suc j) d (omega (arith, le)) (omega (arith, lt))))

abbrev pub at_start : ℕ → List Part → List Part
at_start s ps = filter (λ p. start_of p == s) ps

at_yes : (s : ℕ) (p : Part) (ps : List Part) → start_of p ≡ s → at_start s (p ∷ ps) ≡ p ∷ at_start s ps
at_yes s p ps e = rw (eq-eqb (start_of p) s e) refl

at_no : (s : ℕ) (p : Part) (ps : List Part) → start_of p ≢ s → at_start s (p ∷ ps) ≡ at_start s ps
at_no s p ps e = rw (other (start_of p) s e) refl

-- a part that begins at a place begins no earlier than the first
first_low : (s : ℕ) (p q : Part) (ps rest : List Part) → Rises (p ∷ ps) → at_start s (p ∷ ps) ≡ q ∷ rest → start_of p ≤ s
first_low s p q ps rest rises e = sides (cases_lt s (start_of p))
  where
    none : (xs : List Part) → All (λ x. s < start_of x) xs → at_start s xs ≡ []
    none [] all = refl
    none (x ∷ xs) all = at_no s x xs (λ same. let low = All-head (λ x. s < start_of x) x xs all in absurd (omega (arith, low, same))) ∙ none xs (All-tail (λ x. s < start_of x) x xs all)

    sides : (s < start_of p) ⊎ (start_of p ≤ s) → start_of p ≤ s
    sides (inl less) =
        let empty = none (p ∷ ps) (All-cons (λ x. s < start_of x) p ps less (All-weaker (λ x. start_of p ≤ start_of x) (λ x. s < start_of x) (λ x le. omega (arith, less, le)) ps rises.0)) in
        absurd (cc)
    sides (inr most) = most

same_rest : (s : ℕ) (p : Part) (a b : List Part) → at_start s (p ∷ a) ≡ at_start s (p ∷ b) → at_start s a ≡ at_start s b
same_rest s p a b e = test (start_of p == s) refl
  where
    test : (v : Bool) → (start_of p == s) ≡ v → at_start s a ≡ at_start s b
    test true h =
        let both : p ∷ at_start s a ≡ p ∷ at_start s b = sym (at_yes s p a (eqb-true (start_of p) s h)) ∙ e ∙ at_yes s p b (eqb-true (start_of p) s h) in
        cc
    test false h = sym (at_no s p a (eqb-false (start_of p) s h)) ∙ e ∙ at_no s p b (eqb-false (start_of p) s h)

rising_once : (a b : List Part) → Rises a → Rises b → ((s : ℕ) → at_start s a ≡ at_start s b) → a ≡ b
rising_once [] [] g h same = refl
rising_once [] (q ∷ b) g h same = let e = same (start_of q) ∙ at_yes (start_of q) q b refl in absurd (cc)
rising_once (p ∷ a) [] g h same = let e = sym (same (start_of p)) ∙ at_yes (start_of p) p a refl in absurd (cc)
rising_once (p ∷ a) (q ∷ b) g h same =
    let from_p : at_start (start_of p) (q ∷ b) ≡ p ∷ at_start (start_of p) a = sym (same (start_of p)) ∙ at_yes (start_of p) p a refl in
    let from_q : at_start (start_of q) (p ∷ a) ≡ q ∷ at_start (start_of q) b = same (start_of q) ∙ at_yes (start_of q) q b refl in
    let low = first_low (start_of p) q p b (at_start (start_of p) a) h from_p in
    let high = first_low (start_of q) p q a (at_start (start_of q) b) g from_q in
    let starts : start_of q ≡ start_of p = omega (arith, low, high) in
    let both : p ∷ at_start (start_of p) a ≡ q ∷ at_start (start_of p) b = sym from_p ∙ at_yes (start_of p) q b starts in
    let head : p ≡ q = cc in
    let rest = rising_once a b g.1 h.1 (λ s. same_rest s p a b (same s ∙ ap (λ (x : Part). at_start s (x ∷ b)) (sym head))) in
    ap (λ (x : Part). x ∷ a) head ∙ ap (λ (xs : List Part). q ∷ xs) rest

-- the order by start is one
pub by_start_once : (given a b : List Part) → IsByStart given a → IsByStart given b → a ≡ b
by_start_once given a b g h = rising_once a b (rises_from a g.rises) (rises_from b h.rises) (λ s. g.same s ∙ sym (h.same s))
