use Rattle.std.proofs.Common.{ℕ, ◌<◌, ◌≤◌, get_or}
use Rattle.std.specs.List.{Contains}
use Rattle.xet_wire.proofs.multipart.boundary.least_free.Given as goal

abbrev pub invariant-loop-number : goal.invariant-loop-number
invariant-loop-number l = (l.free ≤ l.number-index) × ((n : ℕ) → n < l.free → Contains l.taken n) × ((k : ℕ) → k < l.number-index → get_or l.taken k 0 < l.free)
