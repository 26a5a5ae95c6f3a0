use Rattle.std.proofs.Common.{◌≡◌, take}
use Rattle.xet_types.proofs.record.copy_of_fetches.Given as goal

abbrev pub invariant-loop-fetch : goal.invariant-loop-fetch
invariant-loop-fetch l = l.copy.items ≡ take l.fetch-index l.fetches
