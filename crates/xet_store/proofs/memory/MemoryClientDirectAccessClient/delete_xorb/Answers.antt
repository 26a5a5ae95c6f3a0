use Rattle.std.proofs.Common.{refl}
use Rattle.std.specs.FinMap.{remove}
use Rattle.xet_store.specs.StoreModel.{StoreModel}
use Rattle.xet_store.specs.Entries.{filled}
use Rattle.xet_store.proofs.StoreLaws.{fewer_sound, same_sound}
use Rattle.xet_store.proofs.memory.MemoryClientDirectAccessClient.delete_xorb.Goals as goal

pub invariant_of-self : goal.invariant_of-self
invariant_of-self c =
    let i = c.self.inside in
    let m : StoreModel = record { xorbs = i.xorbs; shards = i.shards; hidden = i.hidden; dedup = filled i.dedup; expiration = i.expiration; max_ranges = i.max_ranges; dedup_seconds = i.dedup_seconds } in
    let n : StoreModel = record { xorbs = c.remove.new.self; shards = i.shards; hidden = i.hidden; dedup = filled i.dedup; expiration = i.expiration; max_ranges = i.max_ranges; dedup_seconds = i.dedup_seconds } in
    same_sound (record m { xorbs = remove i.xorbs c.args.hash.now }) n c.remove.ensures.removed refl refl (fewer_sound m c.args.hash.now c.self.invariant)
