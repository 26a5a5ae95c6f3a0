use Rattle.std.proofs.Common.{◌≡◌, ◌∙◌, sym, ap}
use Rattle.xet_types.specs.Names.{data_hash}
use Rattle.xet_shard.specs.ShardBytes.{shard_bytes}
use Rattle.xet_store.proofs.memory.shards.KeptShard.canonical.Goals as goal

pub invariant_of-result : goal.invariant_of-result
invariant_of-result c =
    let text : c.deref.result.now ≡ shard_bytes c.in_ok-shard.shard = c.deref.ensures ∙ c.in_ok-text.ensures.value in
    record {
      named = c.compute_data_hash-name.ensures ∙ ap data_hash (text ∙ ap shard_bytes (sym c.in_ok-shard.ensures.twice));
      canonical = c.in_ok-shard.ensures.twice;
      rises = c.in_ok-shard.ensures.rises.files;
    }
