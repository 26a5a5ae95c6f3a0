use Rattle.std.proofs.Common.{◌∙◌, List, refl, ap}
use Rattle.xet_shard.specs.Listings.{ShardModel}
use Rattle.xet_store.specs.StoreModel.{StoreModel, without_shard}
use Rattle.xet_store.specs.Commands.{delete_shard}
use Rattle.xet_store.specs.Entries.{filled}
use Rattle.xet_store.proofs.StoreLaws.{without_shard_sound, same_sound, delete_leaves}
use Rattle.xet_store.proofs.memory.MemoryClientDeletionControlableClient.delete_shard_entry.Goals as goal

pub invariant_of-self : goal.invariant_of-self
invariant_of-self c =
    let i = c.self.inside in
    let m : StoreModel = record { xorbs = i.xorbs; shards = i.shards; hidden = i.hidden; dedup = filled i.dedup; expiration = i.expiration; max_ranges = i.max_ranges; dedup_seconds = i.dedup_seconds } in
    let n : StoreModel = record { xorbs = i.xorbs; shards = c.remove.new.self; hidden = i.hidden; dedup = filled i.dedup; expiration = i.expiration; max_ranges = i.max_ranges; dedup_seconds = i.dedup_seconds } in
    same_sound (record m { shards = without_shard i.shards c.args.hash.now }) n refl c.remove.ensures.removed refl (without_shard_sound m c.args.hash.now c.self.invariant)

pub returns-clause-after : goal.returns-clause-after
returns-clause-after c =
    let i = c.self.inside in
    let m : StoreModel = record { xorbs = i.xorbs; shards = i.shards; hidden = i.hidden; dedup = filled i.dedup; expiration = i.expiration; max_ranges = i.max_ranges; dedup_seconds = i.dedup_seconds } in
    ap (λ (ss : List ShardModel). record m { shards = ss }) c.remove.ensures.removed ∙ delete_leaves m c.args.hash.now ∙ ap (λ (s : StoreModel). (delete_shard s c.args.hash.now).1) c.self.view_is
