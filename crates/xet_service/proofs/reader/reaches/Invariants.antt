use Rattle.std.proofs.Common.{◌≡◌, ◌-◌, drop}
use Rattle.xet_service.specs.ReadingPlans.{total_of}
use Rattle.xet_service.proofs.reader.reaches.Given as goal

abbrev pub invariant-loop-term : goal.invariant-loop-term
invariant-loop-term l = l.offset - total_of l.terms ≡ l.left - total_of (drop l.term-index l.terms)
