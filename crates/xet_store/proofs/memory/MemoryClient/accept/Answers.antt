use Rattle.std.proofs.Common.{◌≡◌, ◌∙◌, List, ℕ, Some, None, refl, sym, ap}
use Rattle.std.specs.List.{flat_map}
use Rattle.std.specs.FinMap.{FinMap}
use Rattle.xet_types.specs.Names.{hash_cmp}
use Rattle.xet_bytes.proofs.Maps.{some_is}
use Rattle.xet_shard.specs.Values.{Listing, ListedXorb}
use Rattle.xet_shard.specs.Listings.{ShardModel}
use Rattle.xet_shard.specs.Canonical.{shard_name}
use Rattle.xet_shard.specs.Eligible.{distinct, eligible_in, eligible_of}
use Rattle.xet_store.specs.StoreModel.{StoreModel, Hashes, shard_named, with_shard, with_entries, shown, accepted}
use Rattle.xet_store.specs.Entries.{filled, filled_with}
use Rattle.xet_store.proofs.Entries.{filled_all}
use Rattle.xet_store.proofs.StoreLaws.{accepted_sound, same_sound, named_last}
use Rattle.xet_store.proofs.memory.MemoryClient.accept.Goals.{in-Some, in_default}
use Rattle.xet_store.proofs.memory.MemoryClient.accept.Goals as goal

pub invariant_of-self-in-Some : goal.invariant_of-self-in-Some
invariant_of-self-in-Some c =
    let i = c.self.inside in
    let m : StoreModel = record { xorbs = i.xorbs; shards = i.shards; hidden = i.hidden; dedup = filled i.dedup; expiration = i.expiration; max_ranges = i.max_ranges; dedup_seconds = i.dedup_seconds } in
    let n : StoreModel = record { xorbs = i.xorbs; shards = c.accept.new.self; hidden = c.show.new.hidden; dedup = filled c.fill.new.entries; expiration = i.expiration; max_ranges = i.max_ranges; dedup_seconds = i.dedup_seconds } in
    same_sound (accepted m c.args.shard) n refl c.in_ok-accept.ensures.ok refl (accepted_sound m c.args.shard c.self.invariant)

pub invariant_of-self-in_default : goal.invariant_of-self-in_default
invariant_of-self-in_default c =
    let i = c.self.inside in
    let m : StoreModel = record { xorbs = i.xorbs; shards = i.shards; hidden = i.hidden; dedup = filled i.dedup; expiration = i.expiration; max_ranges = i.max_ranges; dedup_seconds = i.dedup_seconds } in
    let n : StoreModel = record { xorbs = i.xorbs; shards = c.accept.new.self; hidden = i.hidden; dedup = filled c.fill.new.entries; expiration = i.expiration; max_ranges = i.max_ranges; dedup_seconds = i.dedup_seconds } in
    same_sound (accepted m c.args.shard) n refl c.in_ok-accept.ensures.ok refl (accepted_sound m c.args.shard c.self.invariant)

pub returns-clause-ok : goal.returns-clause-ok
returns-clause-ok c =
    let i = c.self.inside in
    let s = c.args.shard in
    let made : List ShardModel → Hashes → FinMap hash_cmp (List ℕ) → StoreModel = λ ss hs es. record { xorbs = i.xorbs; shards = ss; hidden = hs; dedup = es; expiration = i.expiration; max_ranges = i.max_ranges; dedup_seconds = i.dedup_seconds } in
    let shards : c.accept.new.self ≡ with_shard i.shards s = c.in_ok-accept.ensures.ok in
    let chunks : c.deref-2.result.now ≡ eligible_of s =
    c.deref-2.ensures.value ∙ c.in_ok-chunks.ensures ∙ ap (λ (xs : List ListedXorb). distinct (flat_map eligible_in xs)) (c.xorbs.ensures.value ∙ ap (λ (u : ShardModel). u.xorbs) c.shard-2.ensures) in
    let entries : filled c.fill.new.entries ≡ with_entries (filled i.dedup) (eligible_of s) (shard_name s) =
    ap filled c.fill.ensures
    ∙ ap (λ (cs : List (List ℕ)). filled (filled_with c.reserve.new.entries cs c.name.result.now)) chunks
    ∙ ap (λ (n : List ℕ). filled (filled_with c.reserve.new.entries (eligible_of s) n)) c.name.ensures
    ∙ filled_all c.reserve.new.entries (eligible_of s) (shard_name s)
    ∙ ap (λ (d : FinMap hash_cmp (List ℕ)). with_entries d (eligible_of s) (shard_name s)) c.in_ok-reserve.ensures.same in
    let there : shard_named c.accept.new.self c.name.result.now ≡ Some s =
    ap (λ (ss : List ShardModel). shard_named ss c.name.result.now) shards ∙ ap (shard_named (with_shard i.shards s)) c.name.ensures ∙ named_last i.shards s in
    elim c.match-get.branch [
      | in-Some w ↦
          (let same : w.in-Some.shard.now ≡ s = some_is w.in-Some.shard.now s (w.in-Some.ensures ∙ there) in
          let hidden : w.show.new.hidden ≡ shown i.hidden s.files =
          w.show.ensures ∙ ap (λ (fs : List Listing). shown i.hidden fs) (w.files.ensures.value ∙ ap (λ (u : ShardModel). u.files) same) in
          w.self-is
          ∙ ap (λ (ss : List ShardModel). made ss w.show.new.hidden (filled c.fill.new.entries)) shards
          ∙ ap (λ (hs : Hashes). made (with_shard i.shards s) hs (filled c.fill.new.entries)) hidden
          ∙ ap (λ (es : FinMap hash_cmp (List ℕ)). made (with_shard i.shards s) (shown i.hidden s.files) es) entries
          ∙ ap (λ (m : StoreModel). accepted m s) c.self.view_is)
      | in_default w ↦ (let none : shard_named c.accept.new.self c.name.result.now ≡ None = sym w.in_default.ensures in let no : ⊥ = cc in absurd no)
    ]
