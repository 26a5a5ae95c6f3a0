use Rattle.std.proofs.Common.{◌≡◌, take}
use Rattle.std.specs.FinMap.{entries}
use Rattle.xet_generated.proofs.Ends.{so_far}
use Rattle.xet_generated.proofs.terms.ends_of.Given as goal

abbrev pub invariant-loop-term : goal.invariant-loop-term
invariant-loop-term l = l.ends.entries ≡ entries (so_far (take l.term-index l.terms))
