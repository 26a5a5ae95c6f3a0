use Rattle.std.proofs.Common.{◌≡◌, ◌<◌, ◌^◌, List, ℕ, arith, subst, sym}
use Rattle.std.specs.List.{Contains}
use Rattle.std.specs.List.Sorted.{IsNonDecreasing}
use Rattle.std.proofs.lemmas.List.Sorted.{IsNonDecreasingBy-from_sort}
use Rattle.xet_wire.proofs.Boundaries.{least_is}
use Rattle.xet_wire.proofs.multipart.boundary.least_numbered.Goals as goal

pub least_free-requires : goal.least_free-requires
least_free-requires c = subst IsNonDecreasing (sym c.as_slice.ensures.value) (IsNonDecreasingBy-from_sort (λ n. n) c.sort.new.self.items c.in_ok-sort.ensures.sorted)

pub returns : goal.returns
returns c =
    let same : c.as_slice.result.now ≡ c.sort.new.self.items = c.as_slice.ensures.value in
    let small : c.least_free.result < 2 ^ 64 = search arith in
    least_is c.args.parts.now c.in_ok-taken.taken.items c.sort.new.self.items _ c.least_free.result small
    (record { stand = c.in_ok-taken.ensures.stand; all = c.in_ok-taken.ensures.all })
    c.in_ok-sort.ensures.permutation
    (subst (λ (t : List ℕ). ¬ Contains t c.least_free.result) same c.least_free.ensures.free)
    (subst (λ (t : List ℕ). (n : ℕ) → n < c.least_free.result → Contains t n) same c.least_free.ensures.least)
    c.in_ok-text.ensures
