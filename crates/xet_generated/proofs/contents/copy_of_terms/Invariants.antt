use Rattle.std.proofs.Common.{◌≡◌, take}
use Rattle.xet_generated.proofs.contents.copy_of_terms.Given as goal

abbrev pub invariant-loop-term : goal.invariant-loop-term
invariant-loop-term l = l.copy.items ≡ take l.term-index l.terms
