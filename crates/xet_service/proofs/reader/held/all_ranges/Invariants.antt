use Rattle.std.proofs.Common.{◌≡◌, ◌++◌, drop}
use Rattle.xet_service.specs.ReadingPlans.{all_ranges}
use Rattle.xet_service.proofs.reader.held.all_ranges.Given as goal

abbrev pub invariant-loop-number : goal.invariant-loop-number
invariant-loop-number l = l.out.items ++ all_ranges l.number (drop l.number l.links) ≡ all_ranges 0 l.links
