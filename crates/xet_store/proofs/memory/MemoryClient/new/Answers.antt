use Rattle.std.proofs.Common.{◌∙◌, List, [], ℕ, refl, ap, None}
use Rattle.std.specs.FinMap.{FinMap}
use Rattle.std.specs.FinMap as finmap
use Rattle.xet_types.specs.Names.{hash_cmp}
use Rattle.xet_shard.specs.Listings.{ShardModel}
use Rattle.xet_store.specs.StoreModel.{StoreModel, Chunks, Hashes, empty, never, unlimited}
use Rattle.xet_store.specs.Entries.{filled}
use Rattle.xet_store.proofs.Entries.{filled_none}
use Rattle.xet_store.proofs.StoreLaws.{empty_sound, same_sound}
use Rattle.xet_store.proofs.memory.MemoryClient.new.Goals as goal

pub invariant_of-result : goal.invariant_of-result
invariant_of-result c =
    let n : StoreModel = record { xorbs = c.new.result; shards = c.new-2.result; hidden = c.new-3.result; dedup = filled c.new-4.result; expiration = never; max_ranges = unlimited; dedup_seconds = None } in
    same_sound empty n c.new.ensures c.new-2.ensures refl empty_sound

pub returns : goal.returns
returns c =
    let made : FinMap hash_cmp Chunks → List ShardModel → Hashes → FinMap hash_cmp (List ℕ) → StoreModel = λ xs ss hs es. record { xorbs = xs; shards = ss; hidden = hs; dedup = es; expiration = never; max_ranges = unlimited; dedup_seconds = None } in
    ap (λ (xs : FinMap hash_cmp Chunks). made xs c.new-2.result c.new-3.result (filled c.new-4.result)) c.new.ensures
    ∙ ap (λ (ss : List ShardModel). made finmap.empty ss c.new-3.result (filled c.new-4.result)) c.new-2.ensures
    ∙ ap (λ (hs : Hashes). made finmap.empty [] hs (filled c.new-4.result)) c.new-3.ensures
    ∙ ap (λ (es : FinMap hash_cmp (List ℕ)). made finmap.empty [] finmap.empty es) (ap filled c.new-4.ensures ∙ filled_none)
