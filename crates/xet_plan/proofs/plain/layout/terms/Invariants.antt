use Rattle.std.proofs.Common.{◌≡◌, take, map}
use Rattle.xet_plan.specs.Places.{interval}
use Rattle.xet_plan.specs.MetChunks.{kept, term}
use Rattle.xet_plan.specs.Plain.{known_in}
use Rattle.xet_plan.proofs.plain.layout.terms.Given as goal

abbrev pub invariant-loop-placed : goal.invariant-loop-placed
invariant-loop-placed l = l.terms.items ≡ map (λ p. term p.segment.xorb_hash (kept (known_in l.xorbs) (interval l.start l.end) p)) (take l.placed-index l.met)
