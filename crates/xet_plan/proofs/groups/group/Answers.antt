use Rattle.std.proofs.Common.{◌≡◌, ◌≢◌, ◌∙◌, ℕ, ◌<◌, ◌≤◌, true, Bool, eqb, List, [], ◌∷◌, ◌++◌, length, map, refl, sym, arith, ap}
use Rattle.std.specs.List.{AllByRecursion, flat_map}
use Rattle.std.specs.Global.{Vec}
use Rattle.std.proofs.lemmas.Bool.{eqb-true, eqb-false}
use Rattle.std.proofs.lemmas.List.{append_assoc, append-nil}
use Rattle.xet_plan.specs.declared.runs.MergedRange.{MergedRange}
use Rattle.xet_plan.specs.Groups.{Sizes, items_of}
use Rattle.xet_plan.proofs.GroupLaws.{are_groups}
use Rattle.xet_plan.proofs.groups.group.Goals as goal

abbrev Full : ℕ → Vec MergedRange → Type 0
Full max v = length (items_of v) ≡ max

sizes_full : (max : ℕ) (gs : List (Vec MergedRange)) → 0 < max → AllByRecursion (Full max) gs → Sizes max (map items_of gs)
sizes_full max [] p a = tt
sizes_full max (g ∷ []) p a = (omega (arith, a.0), omega (arith, a.0))
sizes_full max (g ∷ h ∷ gs) p a = (a.0, sizes_full max (h ∷ gs) p a.1)

sizes_last : (max : ℕ) (gs : List (Vec MergedRange)) (g : Vec MergedRange) → AllByRecursion (Full max) gs → 0 < length (items_of g) → length (items_of g) ≤ max → Sizes max (map items_of (gs ++ g ∷ []))
sizes_last max [] g a n m = (n, m)
sizes_last max (h ∷ []) g a n m = (a.0, (n, m))
sizes_last max (h ∷ i ∷ gs) g a n m = (a.0, sizes_last max (i ∷ gs) g a.1 n m)

none_left : (xs : List MergedRange) (empty : Bool) → empty ≡ eqb (length xs) 0 → empty ≡ true → xs ≡ []
none_left [] empty is e = refl
none_left (x ∷ xs) empty is e = let none : length (x ∷ xs) ≡ 0 = eqb-true (length (x ∷ xs)) 0 (sym is ∙ e) in absurd (omega (arith, none))

all_last : (gs : List (Vec MergedRange)) (g : Vec MergedRange) → flat_map items_of (gs ++ g ∷ []) ≡ flat_map items_of gs ++ items_of g
all_last [] g = append-nil (items_of g)
all_last (h ∷ gs) g = ap (λ (xs : List MergedRange). items_of h ++ xs) (all_last gs g) ∙ sym (append_assoc (items_of h) (flat_map items_of gs) (items_of g))

pub returns-then-is_empty-clause-value : goal.returns-then-is_empty-clause-value
returns-then-is_empty-clause-value c =
    let none = none_left c.loop-rest.rest.now c.is_empty.result c.is_empty.ensures c.if-is_empty.true in
    let all : flat_map items_of c.loop-rest.groups.items ≡ c.args.ranges.now = sym (append-nil (flat_map items_of c.loop-rest.groups.items)) ∙ ap (λ (xs : List MergedRange). flat_map items_of c.loop-rest.groups.items ++ xs) (sym none) ∙ c.loop-rest.invariant.0 in
    are_groups c.args.max c.args.ranges.now c.loop-rest.groups.items c.requires all (sizes_full c.args.max c.loop-rest.groups.items c.requires c.loop-rest.invariant.1)

pub returns-clause-value : goal.returns-clause-value
returns-clause-value c =
    let some : length c.loop-rest.rest.now ≢ 0 = eqb-false (length c.loop-rest.rest.now) 0 (sym c.is_empty.ensures ∙ c.if-is_empty.false) in
    let len : length (items_of c.in_ok-from_slice-2.field-0) ≡ length c.loop-rest.rest.now = ap length c.in_ok-from_slice-2.ensures.items in
    let all : flat_map items_of (c.loop-rest.groups.items ++ c.in_ok-from_slice-2.field-0 ∷ []) ≡ c.args.ranges.now = all_last c.loop-rest.groups.items c.in_ok-from_slice-2.field-0 ∙ ap (λ (xs : List MergedRange). flat_map items_of c.loop-rest.groups.items ++ xs) c.in_ok-from_slice-2.ensures.items ∙ c.loop-rest.invariant.0 in
    rw c.in_ok-push-2.ensures.items
    (are_groups c.args.max c.args.ranges.now (c.loop-rest.groups.items ++ c.in_ok-from_slice-2.field-0 ∷ []) c.requires all (sizes_last c.args.max c.loop-rest.groups.items c.in_ok-from_slice-2.field-0 c.loop-rest.invariant.1 (omega arith) (omega arith)))

pub returns-then-is_empty-clause-sizes : goal.returns-then-is_empty-clause-sizes
returns-then-is_empty-clause-sizes c = sizes_full c.args.max c.loop-rest.groups.items c.requires c.loop-rest.invariant.1

pub returns-clause-sizes : goal.returns-clause-sizes
returns-clause-sizes c =
    let some : length c.loop-rest.rest.now ≢ 0 = eqb-false (length c.loop-rest.rest.now) 0 (sym c.is_empty.ensures ∙ c.if-is_empty.false) in
    let len : length (items_of c.in_ok-from_slice-2.field-0) ≡ length c.loop-rest.rest.now = ap length c.in_ok-from_slice-2.ensures.items in
    rw c.in_ok-push-2.ensures.items (sizes_last c.args.max c.loop-rest.groups.items c.in_ok-from_slice-2.field-0 c.loop-rest.invariant.1 (omega arith) (omega arith))
