use Rattle.std.proofs.Common.{◌≡◌, ◌++◌, length}
use Rattle.xet_service.specs.RunLinks.{fresh_groups}
use Rattle.xet_service.proofs.reader.link.push_groups.Given as goal

abbrev pub invariant-loop-rest : goal.invariant-loop-rest
invariant-loop-rest l = l.links.items ++ fresh_groups l.max (l.hash, l.rest) ≡ l.fn.links.items ++ fresh_groups l.max (l.hash, l.runs)

abbrev pub decreases-loop-rest : goal.decreases-loop-rest
decreases-loop-rest l = length l.rest
