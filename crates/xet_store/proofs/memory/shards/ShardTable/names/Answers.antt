use Rattle.std.proofs.Common.{◌∙◌, List, map, ap}
use Rattle.std.specs.FinMap.{keys}
use Rattle.xet_shard.specs.Listings.{ShardModel}
use Rattle.xet_shard.specs.Canonical.{shard_name}
use Rattle.xet_store.specs.Lists.{set_of}
use Rattle.xet_store.proofs.Sets.{names_are}
use Rattle.xet_store.proofs.memory.shards.ShardTable.names.Goals as goal

pub returns : goal.returns
returns c =
    let t = c.self.inside in
    c.in_ok-names.ensures ∙ names_are t.kept t.by_name t.listed t.next c.self.invariant ∙ ap (λ (ss : List ShardModel). keys (set_of (map shard_name ss))) c.self.view_is
