use Rattle.std.proofs.Common.{◌≡◌, ℕ, ◌+◌, ◌-◌, ◌<◌, ◌≤◌, max, List, filter, slice_range, sum}
use Rattle.xet_plan.specs.Places.{Interval}
use Rattle.xet_plan.specs.MetChunks.{lay, is_met}
use Rattle.xet_plan.proofs.place.skip.Given as goal

abbrev pub invariant-loop-start : goal.invariant-loop-start
invariant-loop-start l =
    (l.first ≤ l.start)
    × (l.start ≤ l.past)
    × (l.past ≤ l.end)
    × (l.at ≤ max l.place l.clip_start)
    × (l.at + sum (slice_range l.object.lengths l.start l.end) ≡ l.place + sum (slice_range l.object.lengths l.first l.end))
    × (l.past < l.end → l.clip_start < l.at + sum (slice_range l.object.lengths l.start (l.past + 1)))
    × ((h : List ℕ) (clip : Interval) → clip.start ≡ l.clip_start → filter (is_met clip) (lay h l.start l.at (slice_range l.object.lengths l.start l.end)) ≡ filter (is_met clip) (lay h l.first l.place (slice_range l.object.lengths l.first l.end)))

abbrev pub decreases-loop-start : goal.decreases-loop-start
decreases-loop-start l = l.past - l.start
