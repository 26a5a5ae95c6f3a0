use Rattle.std.proofs.Common.{◌≡◌, ◌∙◌, false, refl, sym, ap}
use Rattle.std.specs.Option.{is_some}
use Rattle.std.specs.FinMap.{FinMap, get, insert}
use Rattle.xet_types.specs.Names.{hash_cmp}
use Rattle.xet_store.specs.StoreModel.{StoreModel, Chunks, with_xorb}
use Rattle.xet_store.specs.Entries.{filled}
use Rattle.xet_store.specs.Undoing.{without_xorbs}
use Rattle.xet_store.proofs.StoreLaws.{same_sound, with_xorb_sound}
use Rattle.xet_store.proofs.Undoing.{put_out, noted_out}
use Rattle.xet_store.proofs.memory.MemoryClient.put_absent.Goals as goal

pub returns-in_err-insert-clause-undone : goal.returns-in_err-insert-clause-undone
returns-in_err-insert-clause-undone c =
    let i = c.self.inside in
    let made : FinMap hash_cmp Chunks → StoreModel = λ t. record { xorbs = t; shards = i.shards; hidden = i.hidden; dedup = filled i.dedup; expiration = i.expiration; max_ranges = i.max_ranges; dedup_seconds = i.dedup_seconds } in
    let hash = c.xorb_hash-hash.result in
    let added = c.args.added.now.items in
    let none : is_some (get i.xorbs hash) ≡ false = sym c.contains.ensures ∙ c.if-contains.false in
    ap (λ (t : FinMap hash_cmp Chunks). without_xorbs (made t) c.push.new.self.items) c.in_err-insert.ensures.err
    ∙ ap (without_xorbs (made i.xorbs)) c.in_ok-push.ensures.items
    ∙ noted_out (made i.xorbs) added hash none
    ∙ ap (λ (m : StoreModel). without_xorbs m added) c.self.view_is

pub invariant_of-self-2 : goal.invariant_of-self-2
invariant_of-self-2 c =
    let i = c.self.inside in
    let chunks = c.args.xorb in
    let hash = c.xorb_hash-hash.result in
    let made : FinMap hash_cmp Chunks → StoreModel = λ t. record { xorbs = t; shards = i.shards; hidden = i.hidden; dedup = filled i.dedup; expiration = i.expiration; max_ranges = i.max_ranges; dedup_seconds = i.dedup_seconds } in
    same_sound (with_xorb (made i.xorbs) hash chunks) (made c.insert.new.self) c.in_ok-insert.ensures.ok refl refl (with_xorb_sound (made i.xorbs) hash chunks c.self.invariant c.xorb_hash-hash.ensures.formed (sym c.xorb_hash-hash.ensures.name))

pub returns-clause-undone : goal.returns-clause-undone
returns-clause-undone c =
    let i = c.self.inside in
    let made : FinMap hash_cmp Chunks → StoreModel = λ t. record { xorbs = t; shards = i.shards; hidden = i.hidden; dedup = filled i.dedup; expiration = i.expiration; max_ranges = i.max_ranges; dedup_seconds = i.dedup_seconds } in
    let hash = c.xorb_hash-hash.result in
    let added = c.args.added.now.items in
    let none : is_some (get i.xorbs hash) ≡ false = sym c.contains.ensures ∙ c.if-contains.false in
    ap (λ (t : FinMap hash_cmp Chunks). without_xorbs (made t) c.push.new.self.items) c.in_ok-insert.ensures.ok
    ∙ ap (without_xorbs (made (insert i.xorbs hash c.args.xorb))) c.in_ok-push.ensures.items
    ∙ put_out (made i.xorbs) added hash c.args.xorb none
    ∙ ap (λ (m : StoreModel). without_xorbs m added) c.self.view_is
