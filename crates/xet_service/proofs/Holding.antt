-- Lists that grow by one.
use Rattle.std.proofs.Common.{append_assoc, ◌≡◌, ◌==◌, ℕ, zero, suc, ◌+◌, true, false, subst, arith, ◌<◌, List, [], ◌∷◌, ◌++◌, length, take, get_or, refl, sym, ap, ◌∙◌}
use Rattle.std.proofs.lemmas.List.{take_more, append-nil, length-append}
use Rattle.std.proofs.lemmas.Bool.{ne_eqb}
use Rattle.std.proofs.lemmas.Grind.{flat_map-append}
use Rattle.std.specs.List.{flat_map, concat}

pub flat_more : {X Y : Type 0} (f : X → List Y) (xs : List X) (i : ℕ) (d : X) → i < length xs → flat_map f (take (i + 1) xs) ≡ flat_map f (take i xs) ++ f (get_or xs i d)
flat_more f xs i d lt =
    ap (λ (ys : List _). flat_map f ys) (take_more xs i d lt) ∙ flat_map-append f (take i xs) (get_or xs i d ∷ []) ∙ ap (λ (ys : List _). flat_map f (take i xs) ++ ys) (append-nil (f (get_or xs i d)))

concat_append : (xs ys : List (List ℕ)) → concat (xs ++ ys) ≡ concat xs ++ concat ys
concat_append [] ys = refl
concat_append (x ∷ xs) ys = ap (λ (zs : List ℕ). x ++ zs) (concat_append xs ys) ∙ sym (append_assoc x (concat xs) (concat ys))

pub concat_more : (xs : List (List ℕ)) (i : ℕ) (d : List ℕ) → i < length xs → concat (take (i + 1) xs) ≡ concat (take i xs) ++ get_or xs i d
concat_more xs i d lt = ap concat (take_more xs i d lt) ∙ concat_append (take i xs) (get_or xs i d ∷ []) ∙ ap (λ (ys : List ℕ). concat (take i xs) ++ ys) (append-nil (get_or xs i d))

concat_long : (xs : List (List ℕ)) (i : ℕ) (d : List ℕ) → i < length xs → 0 < length (get_or xs i d) → 0 < length (concat xs)
concat_long [] i d lt some = absurd omega arith
concat_long (x ∷ xs) zero d lt some = let e = length-append x (concat xs) in omega (arith, e, some)
concat_long (x ∷ xs) (suc i) d lt some = let e = length-append x (concat xs) in let rest = concat_long xs i d (omega (arith, lt)) some in omega (arith, e, rest)

some_of : (x : List ℕ) → (length x == 0) ≡ false → 0 < length x
some_of [] e = absurd cc
some_of (b ∷ bs) e = omega arith

none_of : (x : List ℕ) → (length x == 0) ≡ true → x ≡ []
none_of [] e = refl
none_of (b ∷ bs) e = let no : (suc (length bs) == 0) ≡ false = ne_eqb (suc (length bs)) 0 (λ n. absurd omega (arith, n)) in absurd cc

-- joined they are some where one is
pub concat_some : (xs : List (List ℕ)) (i : ℕ) (x : List ℕ) → i < length xs → x ≡ get_or xs i x → (length x == 0) ≡ false → (length (concat xs) == 0) ≡ false
concat_some xs i x lt is some =
    let long : 0 < length (get_or xs i x) = subst (λ (y : List ℕ). 0 < length y) is (some_of x some) in
    let all = concat_long xs i x lt long in
    ne_eqb (length (concat xs)) 0 (λ e. absurd omega (arith, all, e))

-- joined they are none where each is
pub concat_none : (xs : List (List ℕ)) (i : ℕ) (x : List ℕ) → i < length xs → x ≡ get_or xs i x → concat (take i xs) ≡ [] → (length x == 0) ≡ true → concat (take (i + 1) xs) ≡ []
concat_none xs i x lt is before none =
    concat_more xs i x lt ∙ ap (λ (y : List ℕ). concat (take i xs) ++ y) (sym is ∙ none_of x none) ∙ ap (λ (y : List ℕ). y ++ []) before
