use Rattle.std.proofs.Common.{◌≡◌, take}
use Rattle.std.specs.List.{flat_map}
use Rattle.xet_xorb.specs.ChunkLists.{joined}
use Rattle.xet_generated.specs.Making.{cut_of}
use Rattle.xet_generated.proofs.cut.content_of.Given as goal

abbrev pub invariant-loop-term : goal.invariant-loop-term
invariant-loop-term l = l.content.items ≡ flat_map (λ t. joined (cut_of l.xorbs.entries t)) (take l.term-index l.terms)
