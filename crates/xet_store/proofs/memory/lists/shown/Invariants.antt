use Rattle.std.proofs.Common.{◌≡◌}
use Rattle.std.specs.List.{flat_map}
use Rattle.std.specs.FinMap as finmap
use Rattle.xet_store.specs.Lists.{pairs_with, shown_in}
use Rattle.xet_store.proofs.memory.lists.shown.Given as goal

-- what is done, with what is left, is all
abbrev pub invariant-loop-shard : goal.invariant-loop-shard
invariant-loop-shard l = pairs_with l.pairs (flat_map (shown_in l.hidden) l.shard-iterator) ≡ pairs_with finmap.empty (flat_map (shown_in l.hidden) l.shards)
