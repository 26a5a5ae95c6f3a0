use Rattle.std.proofs.Common.{rules}
use Rattle.std.specs.FinMap.{from_entries}
use Rattle.xet_bytes.specs.Pairs.{pair_cmp}
use Rattle.xet_bytes.proofs.LastPairs.{nothing_known}
use Rattle.xet_bytes.proofs.pair.ByHashAndNumber.new.Goals as goal

pub invariant_of-result : goal.invariant_of-result
invariant_of-result g c = nothing_known (from_entries {R = pair_cmp} c.new.result.entries) c.new-2.result (search rules) c.new-2.ensures
