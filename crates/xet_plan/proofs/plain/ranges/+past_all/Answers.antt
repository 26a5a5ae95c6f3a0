use Rattle.std.proofs.Common.{◌<◌, subst, arith}
use Rattle.std.specs.List.{AllByRecursion}
use Rattle.xet_plan.specs.MetChunks.{Chunk}
use Rattle.xet_plan.proofs.PlainRuns.{below_all, rest_is}
use Rattle.xet_plan.proofs.plain.ranges.+past_all.Goals as goal

pub returns-in-len1-up : goal.returns-in-len1-up
returns-in-len1-up t c =
    let below : c.first-item.result.number < c.max.result = subst (λ (d : Chunk). d.number < c.max.result) c.first.view_is (omega arith) in
    below_all c.args.chunks.now c.first-item.result c.past_all.result c.max.result (omega arith) c.first-item.is (subst (AllByRecursion (λ (d : Chunk). d.number < c.past_all.result)) (rest_is c.args.chunks.now) c.past_all.ensures) (omega arith) below
