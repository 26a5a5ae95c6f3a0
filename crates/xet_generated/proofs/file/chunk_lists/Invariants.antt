use Rattle.std.proofs.Common.{◌≡◌, map, take}
use Rattle.std.specs.FinMap.{entries}
use Rattle.xet_types.specs.Names.{xorb_name}
use Rattle.xet_shard.specs.Canonical.{last_entries}
use Rattle.xet_generated.specs.Contents.{chunks_under}
use Rattle.xet_generated.proofs.file.chunk_lists.Given as goal

abbrev pub invariant-loop-xorb : goal.invariant-loop-xorb
invariant-loop-xorb l = map chunks_under l.lists.entries ≡ entries (last_entries xorb_name (take l.xorb-index l.xorbs))
