use Rattle.std.proofs.Common.{◌≡◌, ◌+◌, ◌*◌, ◌<◌, ◌^◌, take, sum, All}
use Rattle.xet_xorb.specs.Lengths.{IsChunkLength}
use Rattle.xet_plan.proofs.planner.tests.are_lengths.Given as goal

abbrev pub invariant-loop-n : goal.invariant-loop-n
invariant-loop-n l =
    (l.total ≡ 48 + sum (take l.n-index l.lengths) + 48 * l.n-index)
    × (l.total < 2 ^ 34)
    × All IsChunkLength (take l.n-index l.lengths)
