use Rattle.std.proofs.Common.{◌≡◌, ℕ, ◌<◌, ◌^◌, ◌+◌, arith, get_or}
use Rattle.std.proofs.lemmas.List.Sums.{sum_by_more}
use Rattle.std.proofs.lemmas.List.Elements.{All-more}
use Rattle.xet_xorb.specs.Lengths.{IsChunkLength}
use Rattle.xet_plan.proofs.planner.tests.are_lengths.Goals as goal

pub loop-n-preserved : goal.loop-n-preserved
loop-n-preserved c =
    let xs = c.args.lengths.now in
    let i = c.loop-n.n-index in
    let some : 0 < get_or xs i 0 = omega arith in
    let short : get_or xs i 0 < 2 ^ 24 = omega arith in
    (omega (arith, sum_by_more (λ (x : ℕ). x) xs i 0 (omega arith)), omega arith, All-more IsChunkLength xs i 0 (omega arith) c.loop-n.invariant.2 (some, short))
