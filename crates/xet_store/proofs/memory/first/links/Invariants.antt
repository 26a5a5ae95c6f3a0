use Rattle.xet_store.proofs.Links.{LinksSoFar, links_at}
use Rattle.xet_store.proofs.memory.first.links.Given as goal

abbrev pub invariant-loop-hash : goal.invariant-loop-hash
invariant-loop-hash l = LinksSoFar (links_at l.at) l.merged l.hash-index l.links.entries
