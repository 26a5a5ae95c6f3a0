use Rattle.std.proofs.Common.{◌≡◌, map, take}
use Rattle.xet_generated.specs.Making.{segment_of}
use Rattle.xet_generated.proofs.cut.segments_of.Given as goal

abbrev pub invariant-loop-term : goal.invariant-loop-term
invariant-loop-term l = l.segments.items ≡ map (segment_of l.xorbs.entries) (take l.term-index l.terms)
