use Rattle.std.proofs.Common.{◌≡◌, ◌⊎◌, inl, inr, ◌<◌, ◌≤◌, ◌+◌, List, ℕ, get_or, length, arith, ◌∙◌, subst}
use Rattle.std.specs.List.{Contains}
use Rattle.std.proofs.lemmas.Bool.{cases_lt}
use Rattle.std.proofs.lemmas.List.{get_or_default}
use Rattle.xet_wire.proofs.multipart.boundary.least_free.Goals as goal

-- a number that is free isn't in the list: those before a place are below it, and those from there on above
free_from : (taken : List ℕ) (free i : ℕ) → ((k : ℕ) → k < i → get_or taken k 0 < free) → ((k : ℕ) → i ≤ k → k < length taken → free < get_or taken k 0) → ¬ Contains taken free
free_from taken free i below above there =
    let at : get_or taken there.0 0 ≡ free = get_or_default taken there.0 0 free there.1 ∙ there.2 in
    split (cases_lt there.0 i) at
  where
    split : (there.0 < i) ⊎ (i ≤ there.0) → get_or taken there.0 0 ≡ free → ⊥
    split (inl less) at = let b = below there.0 less in omega (arith, b, at)
    split (inr more) at = let a = above there.0 more there.1 in omega (arith, a, at)

one_more : (P : ℕ → Type 0) (n k : ℕ) → k < n + 1 → ((j : ℕ) → j < n → P j) → P n → (k < n) ⊎ (n ≤ k) → P k
one_more P n k lt below here (inl less) = below k less
one_more P n k lt below here (inr most) = subst P (omega (arith, lt, most)) here

pub returns-then-number-free-clause-free : goal.returns-then-number-free-clause-free
returns-then-number-free-clause-free c = free_from c.args.taken.now c.loop-number.free c.loop-number.number-index c.loop-number.invariant.2 (λ k from lt. let rise = c.requires c.loop-number.number-index k 0 from lt in omega (arith, rise, c.if-number-free.true))

pub returns-clause-free : goal.returns-clause-free
returns-clause-free c = free_from c.args.taken.now c.loop-number.free c.loop-number.number-index c.loop-number.invariant.2 (λ k from lt. absurd (omega (arith, from, lt, c.loop-number-test.false)))

pub loop-number-preserved : goal.loop-number-preserved
loop-number-preserved c =
    let taken = c.args.taken.now in
    let i = c.loop-number.number-index in
    let free = c.loop-number.free in
    let at : get_or taken i 0 ≡ free = omega (arith, c.if-number-free.false, c.if-number-free-2.false) in
    let here : Contains taken free = (i, c.loop-number-test.true, get_or_default taken i free 0 c.loop-number-test.true ∙ at) in (
      omega (arith, c.loop-number.invariant.0),
      λ n lt. one_more (λ m. Contains taken m) free n lt c.loop-number.invariant.1 here (cases_lt n free),
      λ k lt. one_more (λ m. get_or taken m 0 < free + 1) i k lt (λ j low. let below = c.loop-number.invariant.2 j low in omega (arith, below)) (omega (arith, at)) (cases_lt k i),
    )
