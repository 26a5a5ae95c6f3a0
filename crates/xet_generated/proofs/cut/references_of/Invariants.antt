use Rattle.std.proofs.Common.{◌≡◌, map, take, drop}
use Rattle.std.specs.List.{flat_map}
use Rattle.xet_xorb.specs.ChunkLists.{joined}
use Rattle.xet_generated.specs.Making.{cut_of, reference_of}
use Rattle.xet_generated.proofs.cut.references_of.Given as goal

abbrev pub invariant-loop-term : goal.invariant-loop-term
invariant-loop-term l = record {
  made : l.references.items ≡ map (reference_of l.xorbs.entries) (take l.term-index l.terms);
  rest : l.rest ≡ flat_map (λ t. joined (cut_of l.xorbs.entries t)) (drop l.term-index l.terms);
}
