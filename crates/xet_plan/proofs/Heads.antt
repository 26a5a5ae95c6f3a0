-- What merging begins with, and how it is grouped.
use Rattle.std.proofs.Common.{◌≡◌, ◌∙◌, ℕ, List, [], ◌∷◌, ◌++◌, map, refl, sym, ap, subst, true, false}
use Rattle.std.specs.Bool.{if◌then◌else◌}
use Rattle.std.specs.Global.{Vec}
use Rattle.std.specs.Cmp.Lexicographic.{bytes_decides}
use Rattle.xet_types.specs.Names.{same_hash}
use Rattle.xet_plan.specs.declared.place.Cut.{Cut}
use Rattle.xet_plan.specs.declared.runs.MergedRange.{MergedRange}
use Rattle.xet_plan.specs.Merging.{Ranges, joins, joined, merge_from, range_of, ranges, ranges_shown, group_from, grouped}
use Rattle.xet_plan.proofs.Order.{same-hash}
use Rattle.xet_plan.proofs.Merging.{joined-hash}

itself : (h : List ℕ) → same_hash h h ≡ true
itself h = (bytes_decides h h).1 refl

-- the first of these cuts has this hash
record Begins (h : List ℕ) (cs : List Cut) : Type 0 where
  first : Cut
  rest : List Cut
  is : cs ≡ first ∷ rest
  same : first.hash ≡ h

begins : (c : Cut) (ds : List Cut) → Begins c.hash (merge_from c ds)
begins c [] = record { first = c; rest = []; is = refl; same = refl }
begins c (d ∷ ds) =
    let one : Begins c.hash (merge_from (joined c d) ds) = subst (λ h. Begins h (merge_from (joined c d) ds)) (joined-hash c d) (begins (joined c d) ds) in
    elim (joins c d) as (λ b. Begins c.hash (if b then merge_from (joined c d) ds else c ∷ merge_from d ds)) [
      | true ↦ one
      | false ↦ record { first = c; rest = merge_from d ds; is = refl; same = refl }
    ]

-- a first cut of the group's hash goes into the group
taken : (h : List ℕ) (rs : List MergedRange) (c : Cut) (cs : List Cut) → c.hash ≡ h → group_from h rs (c ∷ cs) ≡ group_from h (rs ++ range_of c ∷ []) cs
taken h rs c cs e = let t : same_hash c.hash h ≡ true = rw e (itself h) in rw t refl

-- one of another hash begins a group of its own
left : (h : List ℕ) (rs : List MergedRange) (c : Cut) (cs : List Cut) → same_hash c.hash h ≡ false → group_from h rs (c ∷ cs) ≡ ranges h rs ∷ grouped (c ∷ cs)
left h rs c cs t = rw t refl

from_none : (h : List ℕ) (cs : List Cut) → Begins h cs → group_from h [] cs ≡ grouped cs
from_none h cs b =
    let at : group_from h [] (b.first ∷ b.rest) ≡ grouped (b.first ∷ b.rest) = taken h [] b.first b.rest b.same ∙ ap (λ x. group_from x (range_of b.first ∷ []) b.rest) (sym b.same) in
    subst (λ xs. group_from h [] xs ≡ grouped xs) (sym b.is) at

pub first_merged : (c : Cut) (ds : List Cut) → group_from c.hash [] (merge_from c ds) ≡ grouped (merge_from c ds)
first_merged c ds = from_none c.hash (merge_from c ds) (begins c ds)

apart : (c d : Cut) (ds : List Cut) → joins c d ≡ false → merge_from c (d ∷ ds) ≡ c ∷ merge_from d ds
apart c d ds t = rw t refl

pub next_same : (rs : List MergedRange) (c d : Cut) (ds : List Cut) → joins c d ≡ false → same_hash d.hash c.hash ≡ true
    → group_from c.hash rs (merge_from c (d ∷ ds)) ≡ group_from d.hash (rs ++ range_of c ∷ []) (merge_from d ds)
next_same rs c d ds n t =
    ap (group_from c.hash rs) (apart c d ds n) ∙ (taken c.hash rs c (merge_from d ds) refl ∙ ap (λ h. group_from h (rs ++ range_of c ∷ []) (merge_from d ds)) (sym (same-hash d.hash c.hash t)))

next_left : (h : List ℕ) (rs : List MergedRange) (g : List ℕ) (cs : List Cut) → Begins g cs → same_hash g h ≡ false → group_from h rs cs ≡ ranges h rs ∷ group_from g [] cs
next_left h rs g cs b t =
    let s : same_hash b.first.hash h ≡ false = rw b.same t in
    let at : group_from h rs cs ≡ ranges h rs ∷ grouped cs = subst (λ xs. group_from h rs xs ≡ ranges h rs ∷ grouped xs) (sym b.is) (left h rs b.first b.rest s) in
    at ∙ ap (λ gs. ranges h rs ∷ gs) (sym (from_none g cs b))

pub next_other : (rs : List MergedRange) (c d : Cut) (ds : List Cut) → joins c d ≡ false → same_hash d.hash c.hash ≡ false
    → group_from c.hash rs (merge_from c (d ∷ ds)) ≡ ranges c.hash (rs ++ range_of c ∷ []) ∷ group_from d.hash [] (merge_from d ds)
next_other rs c d ds n t =
    ap (group_from c.hash rs) (apart c d ds n) ∙ (taken c.hash rs c (merge_from d ds) refl ∙ next_left c.hash (rs ++ range_of c ∷ []) d.hash (merge_from d ds) (begins d ds) t)

pub last_merged : (rs : List MergedRange) (c : Cut) → group_from c.hash rs (merge_from c []) ≡ ranges c.hash (rs ++ range_of c ∷ []) ∷ []
last_merged rs c = taken c.hash rs c [] refl

-- a group that is done stands before those to come
pub shown_push : (gs : List (List ℕ × Vec MergedRange)) (g : List ℕ × Vec MergedRange) (rest : List Ranges) → map ranges_shown (gs ++ g ∷ []) ++ rest ≡ map ranges_shown gs ++ ranges_shown g ∷ rest
shown_push [] g rest = refl
shown_push (x ∷ xs) g rest = ap (λ gs. ranges_shown x ∷ gs) (shown_push xs g rest)
