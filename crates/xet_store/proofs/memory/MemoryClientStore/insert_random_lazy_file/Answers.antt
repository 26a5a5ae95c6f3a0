use Rattle.std.proofs.Common.{◌≡◌, ◌∙◌, List, ap}
use Rattle.xet_bytes.proofs.Maps.{some_is}
use Rattle.xet_shard.specs.Canonical.{canonical_of}
use Rattle.xet_generated.specs.Terms.{xorbs_of}
use Rattle.xet_generated.specs.Shards.{generated_shard}
use Rattle.xet_generated.specs.Making.{MadeFile, made_file, shard_of}
use Rattle.xet_store.specs.StoreModel.{StoreModel, Chunks, accepted}
use Rattle.xet_store.specs.Commands.{with_all_absent}
use Rattle.xet_store.proofs.GeneratedFiles.{made_contents, made_xorbs, made_shard}
use Rattle.xet_store.proofs.memory.MemoryClientStore.insert_random_lazy_file.Goals as goal

pub returns-clause-told : goal.returns-clause-told
returns-clause-told c = λ m e.
    let terms = c.args.term_spec.now in
    let size = c.args.chunk_size in
    let is : c.in_ok-file.file ≡ made_file terms size = c.in_ok-file.ensures.1 in
    let contents = c.into_parts-xorbs.ensures.contents ∙ ap (λ (f : MadeFile). f.contents) is ∙ made_contents terms size in
    let xorbs : c.into_parts-xorbs.result.0.items ≡ xorbs_of terms size = c.into_parts-xorbs.ensures.xorbs ∙ ap (λ (f : MadeFile). f.xorbs) is ∙ made_xorbs terms size in
    let shard : c.in_ok-shard-2.shard ≡ canonical_of (generated_shard terms size) = c.in_ok-shard-2.ensures ∙ ap canonical_of (c.in_ok-shard.ensures ∙ ap shard_of is ∙ made_shard terms size) in
    let new = c.in_ok-put_generated.ensures.ok
    ∙ ap (λ (n : StoreModel). accepted (with_all_absent n c.into_parts-xorbs.result.0.items) c.in_ok-shard-2.shard) (some_is c.args.self.now m e)
    ∙ ap (λ (xs : List Chunks). accepted (with_all_absent m xs) c.in_ok-shard-2.shard) xorbs
    ∙ ap (accepted (with_all_absent m (xorbs_of terms size))) shard in
    (c.in_ok-file.ensures.0, contents, new)

pub returns-clause-accepts : goal.returns-clause-accepts
returns-clause-accepts c =
    let terms = c.args.term_spec.now in
    let size = c.args.chunk_size in
    let is : c.in_ok-file.file ≡ made_file terms size = c.in_ok-file.ensures.1 in
    (c.in_ok-file.ensures.0, c.into_parts-xorbs.ensures.contents ∙ ap (λ (f : MadeFile). f.contents) is ∙ made_contents terms size)
