-- Groups of ranges: sizes and the ranges fix them, they are the ranges, and none is empty.
use Rattle.std.proofs.Common.{◌≡◌, ◌∙◌, ℕ, ◌+◌, ◌<◌, ◌≤◌, true, false, Bool, cond, List, [], ◌∷◌, ◌++◌, length, map, refl, sym, ap, arith, ltb}
use Rattle.std.specs.List.{AllByRecursion, flat_map}
use Rattle.std.specs.Global.{Vec}
use Rattle.std.proofs.lemmas.Bool.{lt-ltb, le-ltb}
use Rattle.std.proofs.lemmas.List.{append_assoc, append-nil, length-append}
use Rattle.xet_plan.specs.declared.runs.MergedRange.{MergedRange}
use Rattle.xet_plan.specs.Groups.{Sizes, items_of, groups_from, in_groups}

abbrev pub all_of : List (List MergedRange) → List MergedRange
all_of gs = flat_map (λ (g : List MergedRange). g) gs

-- ---- the groups are the ranges

from_all : (max : ℕ) (g rs : List MergedRange) → all_of (groups_from max g rs) ≡ g ++ rs
from_all max g [] = refl
from_all max g (r ∷ rs) = of (ltb (length g) max) (from_all max (g ++ r ∷ []) rs) (from_all max (r ∷ []) rs)
  where
    of : (b : Bool) → all_of (groups_from max (g ++ r ∷ []) rs) ≡ (g ++ r ∷ []) ++ rs → all_of (groups_from max (r ∷ []) rs) ≡ (r ∷ []) ++ rs
        → all_of (cond b (groups_from max (g ++ r ∷ []) rs) (g ∷ groups_from max (r ∷ []) rs)) ≡ g ++ r ∷ rs
    of true more next = more ∙ append_assoc g (r ∷ []) rs
    of false more next = ap (λ (xs : List MergedRange). g ++ xs) next

pub groups_all : (max : ℕ) (rs : List MergedRange) → all_of (in_groups max rs) ≡ rs
groups_all max [] = refl
groups_all max (r ∷ rs) = from_all max (r ∷ []) rs

-- ---- none is empty

from_some : (max : ℕ) (g rs : List MergedRange) → 0 < length g → AllByRecursion (λ (x : List MergedRange). 0 < length x) (groups_from max g rs)
from_some max g [] some = (some, tt)
from_some max g (r ∷ rs) some = of (ltb (length g) max) (from_some max (g ++ r ∷ []) rs (let long = length-append g (r ∷ []) in omega (arith, long))) (from_some max (r ∷ []) rs (omega arith))
  where
    of : (b : Bool) → AllByRecursion (λ (x : List MergedRange). 0 < length x) (groups_from max (g ++ r ∷ []) rs) → AllByRecursion (λ (x : List MergedRange). 0 < length x) (groups_from max (r ∷ []) rs)
        → AllByRecursion (λ (x : List MergedRange). 0 < length x) (cond b (groups_from max (g ++ r ∷ []) rs) (g ∷ groups_from max (r ∷ []) rs))
    of true more next = more
    of false more next = (some, next)

pub groups_some : (max : ℕ) (rs : List MergedRange) → AllByRecursion (λ (x : List MergedRange). 0 < length x) (in_groups max rs)
groups_some max [] = tt
groups_some max (r ∷ rs) = from_some max (r ∷ []) rs (omega arith)

-- ---- sizes and the ranges fix them

-- ranges for which the group has room go into it
fills : (max : ℕ) (g xs : List MergedRange) → length g + length xs ≤ max → groups_from max g xs ≡ (g ++ xs) ∷ []
fills max g [] l = ap (λ (x : List MergedRange). x ∷ []) (sym (append-nil g))
fills max g (x ∷ xs) l =
    let room : ltb (length g) max ≡ true = lt-ltb (length g) max (omega (arith, l)) in
    let long = length-append g (x ∷ []) in
    ap (λ (b : Bool). cond b (groups_from max (g ++ x ∷ []) xs) (g ∷ groups_from max (x ∷ []) xs)) room
    ∙ fills max (g ++ x ∷ []) xs (omega (arith, long, l))
    ∙ ap (λ (y : List MergedRange). y ∷ []) (append_assoc g (x ∷ []) xs)

-- where they fill it, the next one begins another
goes_on : (max : ℕ) (g xs : List MergedRange) (r : MergedRange) (rs : List MergedRange) → length g + length xs ≡ max → groups_from max g (xs ++ r ∷ rs) ≡ (g ++ xs) ∷ groups_from max (r ∷ []) rs
goes_on max g [] r rs l =
    let full : ltb (length g) max ≡ false = le-ltb (length g) max (omega (arith, l)) in
    ap (λ (b : Bool). cond b (groups_from max (g ++ r ∷ []) rs) (g ∷ groups_from max (r ∷ []) rs)) full
    ∙ ap (λ (x : List MergedRange). x ∷ groups_from max (r ∷ []) rs) (sym (append-nil g))
goes_on max g (x ∷ xs) r rs l =
    let room : ltb (length g) max ≡ true = lt-ltb (length g) max (omega (arith, l)) in
    let long = length-append g (x ∷ []) in
    ap (λ (b : Bool). cond b (groups_from max (g ++ x ∷ []) (xs ++ r ∷ rs)) (g ∷ groups_from max (x ∷ []) (xs ++ r ∷ rs))) room
    ∙ goes_on max (g ++ x ∷ []) xs r rs (omega (arith, long, l))
    ∙ ap (λ (y : List MergedRange). y ∷ groups_from max (r ∷ []) rs) (append_assoc g (x ∷ []) xs)

-- a list that isn't empty
record IsSome (xs : List MergedRange) : Type 0 where
  pub first : MergedRange
  pub rest : List MergedRange
  pub is : xs ≡ first ∷ rest

some_of : (xs : List MergedRange) → 0 < length xs → IsSome xs
some_of [] l = absurd (omega (arith, l))
some_of (x ∷ xs) l = record { first = x; rest = xs; is = refl }

next_some : (max : ℕ) (h : List MergedRange) (gs : List (List MergedRange)) → 0 < max → Sizes max (h ∷ gs) → 0 < length h
next_some max h [] p s = s.0
next_some max h (i ∷ gs) p s = omega (arith, p, s.0)

pub groups_fixed : (max : ℕ) (gs : List (List MergedRange)) → 0 < max → Sizes max gs → in_groups max (all_of gs) ≡ gs
groups_fixed max [] p s = refl
groups_fixed max (g ∷ []) p s =
    let i = some_of g s.0 in
    let whole : all_of (g ∷ []) ≡ i.first ∷ i.rest = append-nil g ∙ i.is in
    let fit : 1 + length i.rest ≤ max = let long : length g ≡ length (i.first ∷ i.rest) = ap length i.is in omega (arith, long, s.1) in
    ap (in_groups max) whole ∙ fills max (i.first ∷ []) i.rest (omega (arith, fit)) ∙ ap (λ (x : List MergedRange). x ∷ []) (sym i.is)
groups_fixed max (g ∷ h ∷ gs) p s =
    let i = some_of g (omega (arith, p, s.0)) in
    let j = some_of h (next_some max h gs p s.1) in
    let more = groups_fixed max (h ∷ gs) p s.1 in
    let next : all_of (h ∷ gs) ≡ j.first ∷ (j.rest ++ all_of gs) = ap (λ (x : List MergedRange). x ++ all_of gs) j.is in
    let whole : all_of (g ∷ h ∷ gs) ≡ i.first ∷ (i.rest ++ j.first ∷ (j.rest ++ all_of gs)) = ap (λ (x : List MergedRange). x ++ all_of (h ∷ gs)) i.is ∙ ap (λ (x : List MergedRange). (i.first ∷ i.rest) ++ x) next in
    let fit : length (i.first ∷ []) + length i.rest ≡ max = let long : length g ≡ length (i.first ∷ i.rest) = ap length i.is in omega (arith, long, s.0) in
    ap (in_groups max) whole
    ∙ goes_on max (i.first ∷ []) i.rest j.first (j.rest ++ all_of gs) fit
    ∙ ap (λ (x : List MergedRange). x ∷ in_groups max (j.first ∷ (j.rest ++ all_of gs))) (sym i.is)
    ∙ ap (λ (x : List MergedRange). g ∷ in_groups max x) (sym next)
    ∙ ap (λ (x : List (List MergedRange)). g ∷ x) more

-- ---- the same of vectors

vectors_all : (gs : List (Vec MergedRange)) → flat_map items_of gs ≡ all_of (map items_of gs)
vectors_all [] = refl
vectors_all (g ∷ gs) = ap (λ (x : List MergedRange). g.items ++ x) (vectors_all gs)

pub are_groups : (max : ℕ) (rs : List MergedRange) (gs : List (Vec MergedRange)) → 0 < max → flat_map items_of gs ≡ rs → Sizes max (map items_of gs) → map items_of gs ≡ in_groups max rs
are_groups max rs gs p all sizes = sym (groups_fixed max (map items_of gs) p sizes) ∙ ap (in_groups max) (sym (vectors_all gs) ∙ all)
