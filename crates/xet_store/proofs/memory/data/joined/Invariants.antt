use Rattle.std.proofs.Common.{◌≡◌, take}
use Rattle.std.specs.List.{flat_map}
use Rattle.std.specs.FinMap.{get}
use Rattle.xet_plan.specs.FileBytes.{term_bytes}
use Rattle.xet_store.proofs.memory.data.joined.Given as goal

abbrev pub invariant-loop-term : goal.invariant-loop-term
invariant-loop-term l = l.bytes.items ≡ flat_map (term_bytes (get l.xorbs)) (take l.term-index l.terms)
