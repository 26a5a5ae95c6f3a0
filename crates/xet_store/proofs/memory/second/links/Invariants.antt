use Rattle.xet_store.proofs.Links.{LinksSoFar, groups_at}
use Rattle.xet_store.proofs.memory.second.links.Given as goal

abbrev pub invariant-loop-hash : goal.invariant-loop-hash
invariant-loop-hash l = LinksSoFar (groups_at l.max l.at) l.merged l.hash-index l.links.entries
