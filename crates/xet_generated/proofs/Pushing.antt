-- Lists that grow with a loop.
use Rattle.std.proofs.Common.{◌≡◌, ◌∙◌, ℕ, ◌+◌, ◌<◌, ◌≤◌, List, [], ◌∷◌, ◌++◌, length, map, take, drop, get_or, refl, sym, ap, arith}
use Rattle.std.specs.List.{flat_map}
use Rattle.std.proofs.lemmas.List.Concat.{flat_map-append, flat_map-cons}
use Rattle.std.proofs.lemmas.List.{take_more, drop_more, map_push, map-append, append-nil, length-append, take_at, drop_at}

-- one more of a list
pub pushed : {A B : Type 0} (f : A → B) (xs : List A) (i : ℕ) (d : A) (out new : List B) (y : B) → i < length xs → out ≡ map f (take i xs) → y ≡ f (get_or xs i d) → new ≡ out ++ y ∷ [] → new ≡ map f (take (i + 1) xs)
pushed {A} {B} f xs i d out new y lt was is now =
    now ∙ ap (λ (ys : List B). ys ++ y ∷ []) was ∙ ap (λ (z : B). map f (take i xs) ++ z ∷ []) is ∙ sym (ap (map f) (take_more xs i d lt) ∙ map_push f (take i xs) (get_or xs i d))

flat_more : {A B : Type 0} (f : A → List B) (xs : List A) (i : ℕ) (d : A) → i < length xs → flat_map f (take (i + 1) xs) ≡ flat_map f (take i xs) ++ f (get_or xs i d)
flat_more {A} {B} f xs i d lt =
    ap (flat_map f) (take_more xs i d lt) ∙ flat_map-append f (take i xs) (get_or xs i d ∷ [])
    ∙ ap (λ (ys : List B). flat_map f (take i xs) ++ ys) (flat_map-cons f (get_or xs i d) [] ∙ append-nil (f (get_or xs i d)))

-- one piece more
pub pushed_all : {A B : Type 0} (f : A → List B) (xs : List A) (i : ℕ) (d : A) (out new piece : List B) → i < length xs → out ≡ flat_map f (take i xs) → piece ≡ f (get_or xs i d) → new ≡ out ++ piece → new ≡ flat_map f (take (i + 1) xs)
pushed_all {A} {B} f xs i d out new piece lt was is now =
    now ∙ ap (λ (ys : List B). ys ++ piece) was ∙ ap (λ (ys : List B). flat_map f (take i xs) ++ ys) is ∙ sym (flat_more f xs i d lt)

-- the same of what g makes of each
pub pushed_each : {A B C : Type 0} (g : B → C) (f : A → List B) (xs : List A) (i : ℕ) (d : A) (out new : List C) (piece : List B) → i < length xs → out ≡ map g (flat_map f (take i xs)) → piece ≡ f (get_or xs i d) → new ≡ out ++ map g piece → new ≡ map g (flat_map f (take (i + 1) xs))
pushed_each {A} {B} {C} g f xs i d out new piece lt was is now =
    now ∙ ap (λ (ys : List C). ys ++ map g piece) was ∙ ap (λ (p : List B). map g (flat_map f (take i xs)) ++ map g p) is
    ∙ sym (ap (map g) (flat_more f xs i d lt) ∙ map-append g (flat_map f (take i xs)) (f (get_or xs i d)))

-- the piece at the front
pub first_piece : {A B : Type 0} (f : A → List B) (xs : List A) (i : ℕ) (d : A) (rest : List B) → i < length xs → rest ≡ flat_map f (drop i xs) → rest ≡ f (get_or xs i d) ++ flat_map f (drop (i + 1) xs)
first_piece f xs i d rest lt is = is ∙ ap (flat_map f) (drop_more xs i d lt) ∙ flat_map-cons f (get_or xs i d) (drop (i + 1) xs)

pub piece_there : {A B : Type 0} (f : A → List B) (xs : List A) (i : ℕ) (d : A) (rest : List B) → i < length xs → rest ≡ flat_map f (drop i xs) → length (f (get_or xs i d)) ≤ length rest
piece_there f xs i d rest lt is = omega (arith, ap length (first_piece f xs i d rest lt is), length-append (f (get_or xs i d)) (flat_map f (drop (i + 1) xs)))

pub piece_taken : {A B : Type 0} (f : A → List B) (xs : List A) (i : ℕ) (d : A) (rest : List B) → i < length xs → rest ≡ flat_map f (drop i xs) → take (length (f (get_or xs i d))) rest ≡ f (get_or xs i d)
piece_taken f xs i d rest lt is =
    ap (take (length (f (get_or xs i d)))) (first_piece f xs i d rest lt is) ∙ take_at (f (get_or xs i d)) (flat_map f (drop (i + 1) xs)) (length (f (get_or xs i d))) refl

pub piece_passed : {A B : Type 0} (f : A → List B) (xs : List A) (i : ℕ) (d : A) (rest : List B) → i < length xs → rest ≡ flat_map f (drop i xs) → drop (length (f (get_or xs i d))) rest ≡ flat_map f (drop (i + 1) xs)
piece_passed f xs i d rest lt is =
    ap (drop (length (f (get_or xs i d)))) (first_piece f xs i d rest lt is) ∙ drop_at (f (get_or xs i d)) (flat_map f (drop (i + 1) xs)) (length (f (get_or xs i d))) refl
