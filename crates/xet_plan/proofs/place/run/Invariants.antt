use Rattle.std.proofs.Common.{◌≡◌, ℕ, ◌+◌, ◌-◌, ◌<◌, ◌≤◌, List, ◌++◌, filter, slice_range, sum, get_or}
use Rattle.xet_plan.specs.Places.{Interval}
use Rattle.xet_plan.specs.MetChunks.{lay, is_met}
use Rattle.xet_plan.proofs.place.run.Given as goal

abbrev pub invariant-loop-last : goal.invariant-loop-last
invariant-loop-last l =
    (l.first ≤ l.last)
    × (l.last ≤ l.end)
    × (l.to ≡ l.at + sum (slice_range l.object.lengths l.first l.last))
    × (l.to + sum (slice_range l.object.lengths l.last l.end) ≡ l.at + sum (slice_range l.object.lengths l.first l.end))
    × ((h : List ℕ) (clip : Interval) → clip.end ≡ l.clip_end → clip.start < clip.end → (l.first < l.end → clip.start < l.at + get_or l.object.lengths l.first 0) → lay h l.first l.at (slice_range l.object.lengths l.first l.last) ++ filter (is_met clip) (lay h l.last l.to (slice_range l.object.lengths l.last l.end)) ≡ filter (is_met clip) (lay h l.first l.at (slice_range l.object.lengths l.first l.end)))

abbrev pub decreases-loop-last : goal.decreases-loop-last
decreases-loop-last l = l.end - l.last
