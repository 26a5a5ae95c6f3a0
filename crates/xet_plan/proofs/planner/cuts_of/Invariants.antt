use Rattle.std.proofs.Common.{◌≡◌, ◌*◌, ◌≤◌, drop, Some}
use Rattle.xet_plan.specs.Places.{Known, interval}
use Rattle.xet_plan.specs.Merging.{NoneEmpty}
use Rattle.xet_plan.specs.Cuts.{IsRecent}
use Rattle.xet_plan.proofs.SoFar.{SoFar, NamedSoFar}
use Rattle.xet_plan.proofs.planner.cuts_of.Given as goal

abbrev pub invariant-loop-segment : goal.invariant-loop-segment
invariant-loop-segment g l =
    (l.at ≤ l.segment-index * 4294967295)
    × (g.F.Footers.told l.footers ≡ g.F.Footers.told l.fn.footers)
    × (g.F.Footers.faults l.fn.footers ≤ g.F.Footers.faults l.footers)
    × ((known : Known) → g.F.Footers.told l.fn.footers ≡ Some known → SoFar known (interval l.start l.end) l.segments l.at (drop l.segment-index l.segments) l.cuts.items)
    × NoneEmpty l.cuts.items
    × ((known : Known) → g.F.Footers.told l.fn.footers ≡ Some known → IsRecent known l.recent)
    × NamedSoFar (interval l.start l.end) l.segments l.at (drop l.segment-index l.segments)
