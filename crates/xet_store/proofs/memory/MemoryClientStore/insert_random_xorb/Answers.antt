use Rattle.std.proofs.Common.{◌≡◌, ◌∙◌, refl, sym, ap}
use Rattle.std.specs.FinMap.{insert}
use Rattle.xet_types.specs.Names.{xorb_name}
use Rattle.xet_store.specs.StoreModel.{StoreModel, with_xorb}
use Rattle.xet_store.specs.Entries.{filled}
use Rattle.xet_store.proofs.StoreLaws.{same_sound, with_xorb_sound}
use Rattle.xet_store.proofs.memory.MemoryClientStore.insert_random_xorb.Goals as goal

pub invariant_of-self-2 : goal.invariant_of-self-2
invariant_of-self-2 c =
    let i = c.self.inside in
    let chunks = c.args.xorb in
    let hash = c.xorb_hash-hash.result in
    let m : StoreModel = record { xorbs = i.xorbs; shards = i.shards; hidden = i.hidden; dedup = filled i.dedup; expiration = i.expiration; max_ranges = i.max_ranges; dedup_seconds = i.dedup_seconds } in
    let n : StoreModel = record { xorbs = c.insert.new.self; shards = i.shards; hidden = i.hidden; dedup = filled i.dedup; expiration = i.expiration; max_ranges = i.max_ranges; dedup_seconds = i.dedup_seconds } in
    let put : n.xorbs ≡ insert m.xorbs hash chunks = c.in_ok-insert.ensures.ok ∙ ap (insert m.xorbs hash) c.in_ok-stored.ensures in
    same_sound (with_xorb m hash chunks) n put refl refl (with_xorb_sound m hash chunks c.self.invariant c.xorb_hash-hash.ensures.formed (sym c.xorb_hash-hash.ensures.name))
