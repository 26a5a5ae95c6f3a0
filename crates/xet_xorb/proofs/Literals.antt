-- Texts that are passed one after another.
use Rattle.std.proofs.Common.{◌≡◌, ℕ, ◌+◌, ◌<◌, ◌≤◌, List, [], ◌∷◌, ◌++◌, length, get_or, take, drop, Option, Some, None, eqb, refl, sym, ap, ◌∙◌, append_assoc, drop-cons, arith, suc}
use Rattle.std.specs.Prelude.{Err}
use Rattle.std.specs.List.{starts_with, flat_map}
use Rattle.std.proofs.lemmas.List.{take-append-drop, drop_at, drop_all}
use Rattle.std.proofs.lemmas.List.Concat.{flat_map-cons}
use lib.Pointwise.{bytes_decides}
use Rattle.xet_bytes.specs.declared.cursor.ReadError.{ReadError}
use Rattle.xet_bytes.specs.declared.cursor.ReadError.TheVariants.{Memory, Malformed}
use Rattle.xet_bytes.specs.Reading.{Gives, literal_at}
use Rattle.xet_bytes.proofs.FieldLaws.{literal_field, passes_some}

-- what was passed stood there
pub literal_parts : (text bytes : List ℕ) (x : Unit {0} × List ℕ) → literal_at text bytes ≡ Some x → bytes ≡ text ++ x.1
literal_parts text bytes x e =
    let g = passes_some (starts_with eqb bytes text) (tt, drop (length text) bytes) x e in
    let front : text ≡ take (length text) bytes = (bytes_decides text (take (length text) bytes)).0 g.0 in
    let left : drop (length text) bytes ≡ x.1 = ap (λ (y : Unit {0} × List ℕ). y.1) g.1 in
    sym (take-append-drop (length text) bytes) ∙ ap (λ (t : List ℕ). t ++ drop (length text) bytes) (sym front) ∙ ap (λ (t : List ℕ). text ++ t) left

pub literal_again : (text rest : List ℕ) → literal_at text (text ++ rest) ≡ Some (tt, rest)
literal_again text rest = (literal_field text).again tt rest tt

none_unless : {A : Type 0} (r : Option A) → ((x : A) → r ≡ Some x → ⊥) → r ≡ None
none_unless (Some x) h = absurd (h x refl)
none_unless None h = refl

-- what is not passed does not stand there
pub literal_absent : (text bytes rest : List ℕ) → literal_at text bytes ≡ None → bytes ≡ text ++ rest → ⊥
literal_absent text bytes rest none e = let some : literal_at text bytes ≡ Some (tt, rest) = ap (literal_at text) e ∙ literal_again text rest in absurd cc

literal-append-some : (a b rest : List ℕ) (r : Option (Unit {0} × List ℕ)) → literal_at b rest ≡ r → literal_at (a ++ b) (a ++ rest) ≡ r
literal-append-some a b rest (Some x) e =
    ap (literal_at (a ++ b)) (ap (λ (t : List ℕ). a ++ t) (literal_parts b rest x e) ∙ sym (append_assoc a b x.1)) ∙ literal_again (a ++ b) x.1
literal-append-some a b rest None e =
    none_unless (literal_at (a ++ b) (a ++ rest))
    (λ x h.
    let whole : a ++ rest ≡ a ++ (b ++ x.1) = literal_parts (a ++ b) (a ++ rest) x h ∙ append_assoc a b x.1 in
    let left : rest ≡ b ++ x.1 = sym (drop_at a rest (length a) refl) ∙ ap (drop (length a)) whole ∙ drop_at a (b ++ x.1) (length a) refl in
    literal_absent b rest x.1 e left)

-- one text was passed, and the next is still to be
pub literal-then : (a b bytes rest : List ℕ) → literal_at a bytes ≡ Some (tt, rest) → literal_at (a ++ b) bytes ≡ literal_at b rest
literal-then a b bytes rest e = ap (literal_at (a ++ b)) (literal_parts a bytes (tt, rest) e) ∙ literal-append-some a b rest (literal_at b rest) refl

pub literal-stops : (a b bytes : List ℕ) → literal_at a bytes ≡ None → literal_at (a ++ b) bytes ≡ None
literal-stops a b bytes e = none_unless (literal_at (a ++ b) bytes) (λ x h. literal_absent a bytes (b ++ x.1) e (literal_parts (a ++ b) bytes x h ∙ append_assoc a b x.1))

-- ---- a list of texts, one after another

from_next : {X : Type 0} (f : X → List ℕ) (xs : List X) (i : ℕ) (x : X) → i < length xs → x ≡ get_or xs i x → flat_map f (drop i xs) ≡ f x ++ flat_map f (drop (i + 1) xs)
from_next f xs i x lt is =
    let next : suc i ≡ i + 1 = omega arith in
    ap (flat_map f) (drop-cons xs i x lt ∙ ap (λ n. get_or xs i x ∷ drop n xs) next ∙ ap (λ y. y ∷ drop (i + 1) xs) (sym is)) ∙ flat_map-cons f x (drop (i + 1) xs)

pub passes_next : {X : Type 0} (f : X → List ℕ) (xs : List X) (i : ℕ) (x : X) (bytes rest : List ℕ) (all : Option (Unit {0} × List ℕ)) → i < length xs → x ≡ get_or xs i x → literal_at (f x) bytes ≡ Some (tt, rest)
    → all ≡ literal_at (flat_map f (drop i xs)) bytes → all ≡ literal_at (flat_map f (drop (i + 1) xs)) rest
passes_next f xs i x bytes rest all lt is e so_far =
    so_far ∙ ap (λ (t : List ℕ). literal_at t bytes) (from_next f xs i x lt is) ∙ literal-then (f x) (flat_map f (drop (i + 1) xs)) bytes rest e

pub passes_all : {X : Type 0} (f : X → List ℕ) (xs : List X) (i : ℕ) (bytes : List ℕ) (all : Option (Unit {0} × List ℕ)) → length xs ≤ i → all ≡ literal_at (flat_map f (drop i xs)) bytes → all ≡ Some (tt, bytes)
passes_all f xs i bytes all le so_far = so_far ∙ ap (λ ys. literal_at (flat_map f ys) bytes) (drop_all i xs le) ∙ literal_again [] bytes

-- where one is not passed, not all are
pub passes_none : {X : Type 0} (f : X → List ℕ) (xs : List X) (i : ℕ) (x : X) (e : ReadError) (bytes left rest : List ℕ) (all : Option (Unit {0} × List ℕ)) → i < length xs → x ≡ get_or xs i x → Gives {X = Unit {0}} (λ y. y) (Err e) left (literal_at (f x) bytes)
    → all ≡ literal_at (flat_map f (drop i xs)) bytes → Gives {X = Unit {0}} (λ y. y) (Err e) rest all
passes_none f xs i x Memory bytes left rest all lt is h so_far = tt
passes_none f xs i x Malformed bytes left rest all lt is h so_far =
    so_far ∙ ap (λ (t : List ℕ). literal_at t bytes) (from_next f xs i x lt is) ∙ literal-stops (f x) (flat_map f (drop (i + 1) xs)) bytes h
