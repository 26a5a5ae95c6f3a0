use Rattle.std.proofs.Common.{◌≡◌, ◌∙◌, List, Some, ap, subst}
use Rattle.std.proofs.lemmas.Result.{err_from_is_err_and}
use Rattle.xet_shard.specs.Canonical.{canonical_of}
use Rattle.xet_shard.specs.Listings.{ShardModel}
use Rattle.xet_shard.specs.ShardBytes.{IsTextOfOne}
use Rattle.xet_generated.specs.Terms.{xorbs_of}
use Rattle.xet_generated.specs.Shards.{generated_shard}
use Rattle.xet_generated.specs.Contents.{full_contents}
use Rattle.xet_generated.specs.Making.{MadeFile, made_file, shard_of, full_contents_of}
use Rattle.xet_store.specs.StoreModel.{Chunks}
use Rattle.xet_store.specs.Commands.{UploadsShard, with_all_absent}
use Rattle.xet_store.specs.GeneratedUploads.{StoresSome}
use Rattle.xet_store.proofs.GeneratedFiles.{made_xorbs, made_shard, made_full}
use Rattle.xet_store.proofs.Uploading.{one_stays, all_stored, shard_stored, generated_refusal, generated_accepts, generated_stays}
use Rattle.xet_store.proofs.upload.upload_random_file.Goals as goal

pub returns-in_err-upload_all-clause-told : goal.returns-in_err-upload_all-clause-told
returns-in_err-upload_all-clause-told g c = λ m told.
    let terms = c.args.term_spec.now in
    let size = c.args.chunk_size in
    let after = g.C.Client.told c.upload_all.new.client in
    let is : c.in_ok-file.file ≡ made_file terms size = c.in_ok-file.ensures.1 in
    let xorbs : c.xorbs.result.now ≡ xorbs_of terms size = c.xorbs.ensures ∙ ap (λ (f : MadeFile). f.xorbs) is ∙ made_xorbs terms size in
    let p = err_from_is_err_and c.from_residual-in_err-upload_all.result c.from_residual-in_err-upload_all.ensures.1 in
    rw (p.1, p.2) (generated_stays m terms size c.in_err-upload_all.field-0.0 after c.in_err-upload_all.ensures.refusals
    (subst (λ (xs : List Chunks). StoresSome m xs after) xorbs (c.in_err-upload_all.ensures.told m told)))

pub returns-in_err-_accepted-clause-told : goal.returns-in_err-_accepted-clause-told
returns-in_err-_accepted-clause-told g c = λ m told.
    let terms = c.args.term_spec.now in
    let size = c.args.chunk_size in
    let after = g.C.Client.told c.upload_shard.new.self in
    let is : c.in_ok-file.file ≡ made_file terms size = c.in_ok-file.ensures.1 in
    let xorbs : c.xorbs.result.now ≡ xorbs_of terms size = c.xorbs.ensures ∙ ap (λ (f : MadeFile). f.xorbs) is ∙ made_xorbs terms size in
    let m1 = with_all_absent m (xorbs_of terms size) in
    let mid : g.C.Client.told c.upload_all.new.client ≡ Some m1 = c.in_ok-upload_all.ensures.told m told ∙ ap (λ (xs : List Chunks). Some (with_all_absent m xs)) xorbs in
    let outside = c.in_err-_accepted.ensures.accepts (canonical_of c.in_ok-shard.shard) (c.in_ok-text.ensures.read_back).read in
    let stays = one_stays (UploadsShard m1 c.in_ok-text.text) m1 c.in_err-_accepted.field-0.0 after outside (c.in_err-_accepted.ensures.told m1 mid) in
    let p = err_from_is_err_and c.from_residual-in_err-_accepted.result c.from_residual-in_err-_accepted.ensures.1 in
    rw (p.1, p.2) (generated_stays m terms size c.in_err-_accepted.field-0.0 after outside (all_stored m (xorbs_of terms size) after stays))

pub returns-in_err-_accepted-clause-refusals : goal.returns-in_err-_accepted-clause-refusals
returns-in_err-_accepted-clause-refusals g c =
    let p = err_from_is_err_and c.from_residual-in_err-_accepted.result c.from_residual-in_err-_accepted.ensures.1 in
    rw (p.1, p.2) (generated_refusal c.in_err-_accepted.field-0.0 (c.in_err-_accepted.ensures.accepts (canonical_of c.in_ok-shard.shard) (c.in_ok-text.ensures.read_back).read))

pub returns-in_err-_accepted-clause-accepts : goal.returns-in_err-_accepted-clause-accepts
returns-in_err-_accepted-clause-accepts g c =
    let terms = c.args.term_spec.now in
    let size = c.args.chunk_size in
    let p = err_from_is_err_and c.from_residual-in_err-_accepted.result c.from_residual-in_err-_accepted.ensures.1 in
    rw (p.1, p.2) (generated_accepts terms size (full_contents terms size) c.in_err-_accepted.field-0.0 (c.in_err-_accepted.ensures.accepts (canonical_of c.in_ok-shard.shard) (c.in_ok-text.ensures.read_back).read))

pub returns-clause-told : goal.returns-clause-told
returns-clause-told g c = λ m told.
    let terms = c.args.term_spec.now in
    let size = c.args.chunk_size in
    let after = g.C.Client.told c.upload_shard.new.self in
    let is : c.in_ok-file.file ≡ made_file terms size = c.in_ok-file.ensures.1 in
    let xorbs : c.xorbs.result.now ≡ xorbs_of terms size = c.xorbs.ensures ∙ ap (λ (f : MadeFile). f.xorbs) is ∙ made_xorbs terms size in
    let shard : c.in_ok-shard.shard ≡ generated_shard terms size = c.in_ok-shard.ensures ∙ ap shard_of is ∙ made_shard terms size in
    let text : IsTextOfOne c.in_ok-text.text (canonical_of (generated_shard terms size)) = subst (λ (s : ShardModel). IsTextOfOne c.in_ok-text.text (canonical_of s)) shard c.in_ok-text.ensures.read_back in
    let m1 = with_all_absent m (xorbs_of terms size) in
    let mid : g.C.Client.told c.upload_all.new.client ≡ Some m1 = c.in_ok-upload_all.ensures.told m told ∙ ap (λ (xs : List Chunks). Some (with_all_absent m xs)) xorbs in
    shard_stored m1 c.in_ok-text.text (generated_shard terms size) c.in_ok-_accepted._accepted after text (c.in_ok-_accepted.ensures.told m1 mid)

pub returns-clause-accepts : goal.returns-clause-accepts
returns-clause-accepts g c =
    let terms = c.args.term_spec.now in
    let size = c.args.chunk_size in
    let is : c.in_ok-file.file ≡ made_file terms size = c.in_ok-file.ensures.1 in
    (c.in_ok-file.ensures.0, c.in_ok-contents.ensures ∙ ap full_contents_of is ∙ made_full terms size)
