use Rattle.std.proofs.Common.{◌≡◌, ◌*◌, ◌≤◌, ◌++◌, drop}
use Rattle.xet_plan.specs.Places.{interval, met_from, met_segments}
use Rattle.xet_plan.proofs.plain.met.met_segments.Given as goal

abbrev pub invariant-loop-segment : goal.invariant-loop-segment
invariant-loop-segment l =
    (l.at ≤ l.segment-index * 4294967295)
    × (l.met.items ++ met_from (interval l.start l.end) l.at (drop l.segment-index l.segments) ≡ met_segments (interval l.start l.end) l.segments)
