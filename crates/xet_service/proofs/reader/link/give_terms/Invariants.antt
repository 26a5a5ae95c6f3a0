use Rattle.std.proofs.Common.{◌≡◌, drop}
use Rattle.xet_service.specs.ReadingPlans.{with_terms}
use Rattle.xet_service.proofs.reader.link.give_terms.Given as goal

abbrev pub invariant-loop-held : goal.invariant-loop-held
invariant-loop-held l = with_terms 0 l.links.items (drop l.held-index l.terms) ≡ with_terms 0 l.fn.links.items l.terms
