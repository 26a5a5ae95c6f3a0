use Rattle.std.proofs.Common.{◌<◌, ◌≢◌, arith}
use Rattle.xet_store.specs.StoreModel.{StoreModel}
use Rattle.xet_store.specs.Entries.{filled}
use Rattle.xet_store.proofs.StoreLaws.{with_max_sound}
use Rattle.xet_store.proofs.memory.MemoryClientDirectAccessClient.set_max_ranges_per_fetch.Goals as goal

pub invariant_of-self : goal.invariant_of-self
invariant_of-self c =
    let i = c.self.inside in
    let m : StoreModel = record { xorbs = i.xorbs; shards = i.shards; hidden = i.hidden; dedup = filled i.dedup; expiration = i.expiration; max_ranges = i.max_ranges; dedup_seconds = i.dedup_seconds } in
    let some : c.args.max_ranges ≢ 0 = c.if-max_ranges-eq0.false in
    with_max_sound m c.args.max_ranges (omega arith) c.self.invariant
