use Rattle.std.proofs.Common.{◌≡◌, map, take}
use Rattle.std.specs.List.{flat_map}
use Rattle.xet_xorb.specs.Generated.{hash_and_size}
use Rattle.xet_generated.specs.Making.{cut_of}
use Rattle.xet_generated.proofs.cut.name_of.Given as goal

abbrev pub invariant-loop-term : goal.invariant-loop-term
invariant-loop-term l = l.sized.items ≡ map hash_and_size (flat_map (cut_of l.xorbs.entries) (take l.term-index l.terms))
