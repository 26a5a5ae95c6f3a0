use Rattle.std.proofs.Common.{◌≡◌, ◌≤◌, ◌<◌, ℕ, length, get_or}
use Rattle.xet_wire.proofs.multipart.read.without_quotes.Given as goal

abbrev pub invariant-loop-end : goal.invariant-loop-end
invariant-loop-end l = (l.end ≤ length l.rest) × ((k : ℕ) → l.end ≤ k → k < length l.rest → get_or l.rest k 0 ≡ 34)

abbrev pub decreases-loop-end : goal.decreases-loop-end
decreases-loop-end l = l.end
