use Rattle.std.proofs.Common.{◌≡◌, ◌<◌, ◌∷◌, length, map, arith}
use Rattle.xet_plan.specs.MetChunks.{Has}
use Rattle.xet_plan.specs.Merging.{chunks_part, group_of, ranges_shown}
use Rattle.xet_plan.specs.Runs.{IsRuns}
use Rattle.xet_plan.proofs.PlainRuns.{others_less, merged_first, runs_all}
use Rattle.xet_plan.proofs.plain.ranges.+merged.Goals as goal

pub merged-requires : goal.merged-requires
merged-requires t c =
    let less : length c.deref.result.now < length c.args.chunks.now =
    rw (c.deref.ensures.value, c.in_ok-rest.ensures) (others_less c.in-Some.hash c.args.chunks.now c.in-Some.ensures.met.0 c.in-Some.ensures.met.1) in
    (omega (arith, less, c.decreases), tt)

pub returns-clause-runs : goal.returns-clause-runs
returns-clause-runs t c =
    let xs = c.args.chunks.now in
    let h = c.in-Some.hash in
    let runs : IsRuns (Has xs h) (map chunks_part c.in_ok-runs.runs.items) = runs_all xs c.past_all.result h (map chunks_part c.in_ok-runs.runs.items) c.past_all.ensures c.in_ok-runs.ensures.runs in
    let rest = rw (c.deref.ensures.value, c.in_ok-rest.ensures) at c.in_ok-groups.ensures.runs in
    let items : c.insert.new.self.items ≡ (h, c.in_ok-runs.runs) ∷ c.in_ok-groups.groups.items = c.in_ok-insert.ensures.items in
    rw items (merged_first xs h c.in-Some.ensures.met.0 (map chunks_part c.in_ok-runs.runs.items) (map group_of (map ranges_shown c.in_ok-groups.groups.items)) c.in-Some.ensures.met.1 c.in-Some.ensures.least runs rest)
