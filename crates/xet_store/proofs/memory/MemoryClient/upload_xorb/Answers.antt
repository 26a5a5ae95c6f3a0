use Rattle.std.proofs.Common.{◌≡◌, ◌∙◌, Bool, true, false, not, refl, sym, ap}
use lib.Pointwise.{bytes_decides}
use Rattle.std.specs.FinMap.{insert}
use Rattle.xet_types.specs.Names.{same_hash, xorb_name, name_of_hashes}
use Rattle.xet_store.specs.StoreModel.{StoreModel, with_xorb}
use Rattle.xet_store.specs.Entries.{filled}
use Rattle.xet_store.proofs.StoreLaws.{same_sound, with_xorb_sound}
use Rattle.xet_store.proofs.memory.MemoryClient.upload_xorb.Goals as goal

not_not : (b : Bool) → not b ≡ false → b ≡ true
not_not true p = refl
not_not false p = let no : ⊥ = cc in absurd no

pub invariant_of-self-2 : goal.invariant_of-self-2
invariant_of-self-2 c =
    let i = c.self.inside in
    let chunks = c.in_ok-read.read.chunks.items in
    let m : StoreModel = record { xorbs = i.xorbs; shards = i.shards; hidden = i.hidden; dedup = filled i.dedup; expiration = i.expiration; max_ranges = i.max_ranges; dedup_seconds = i.dedup_seconds } in
    let n : StoreModel = record { xorbs = c.insert.new.self; shards = i.shards; hidden = i.hidden; dedup = filled i.dedup; expiration = i.expiration; max_ranges = i.max_ranges; dedup_seconds = i.dedup_seconds } in
    let named : xorb_name chunks ≡ c.args.hash.now = sym (c.xorb_hash.ensures ∙ ap (λ o. name_of_hashes o.hashes) c.in_ok-read.ensures.object) ∙ (bytes_decides c.xorb_hash.result c.args.hash.now).0 (not_not (same_hash c.xorb_hash.result c.args.hash.now) (sym c.ne.ensures ∙ c.if-ne.false)) in
    let put : n.xorbs ≡ insert m.xorbs c.args.hash.now chunks = c.in_ok-insert.ensures.ok ∙ ap (insert m.xorbs c.args.hash.now) c.in_ok-xorb.ensures in
    same_sound (with_xorb m c.args.hash.now chunks) n put refl refl (with_xorb_sound m c.args.hash.now chunks c.self.invariant c.in_ok-read.ensures.chunks.formed named)
