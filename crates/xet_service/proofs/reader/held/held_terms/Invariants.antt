use Rattle.std.proofs.Common.{◌≡◌, ◌++◌, drop}
use Rattle.xet_service.specs.ReadingPlans.{all_held, held_terms}
use Rattle.xet_service.proofs.reader.held.held_terms.Given as goal

abbrev pub invariant-loop-term : goal.invariant-loop-term
invariant-loop-term l = record {
  all : all_held l.fn.ranges (drop l.term-index l.terms) ≡ all_held l.fn.ranges l.terms;
  made : l.held.items ++ held_terms l.fn.ranges (drop l.term-index l.terms) ≡ held_terms l.fn.ranges l.terms;
}
