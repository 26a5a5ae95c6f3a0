use Rattle.std.proofs.Common.{◌≡◌, take}
use Rattle.std.specs.FinMap.{entries}
use Rattle.xet_shard.specs.Canonical.{xorb_hash_of, last_entries}
use Rattle.xet_shard.proofs.canonical_form.xorbs_by_hash.Given as goal

abbrev pub invariant-loop-xorb : goal.invariant-loop-xorb
invariant-loop-xorb l = l.last.entries ≡ entries (last_entries xorb_hash_of (take l.xorb-index l.xorbs))
