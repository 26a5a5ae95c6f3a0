use Rattle.std.proofs.Common.{◌∙◌, List, ap, subst}
use Rattle.xet_shard.specs.Values.{Listing}
use Rattle.xet_store.specs.Indexed.{Listed, with_pairs, without_pairs, AddsSome}
use Rattle.xet_store.proofs.Listings.{taken_back, all_back}
use Rattle.xet_store.proofs.memory.shards.index.Goals as goal

pub returns-in-Err-clause-unlisted : goal.returns-in-Err-clause-unlisted
returns-in-Err-clause-unlisted c =
    let old = c.args.listed.now in
    let files = c.args.shard.now.files in
    let some : AddsSome old files c.args.serial c.list.new.listed = subst (λ (fs : List Listing). AddsSome old fs c.args.serial c.list.new.listed) c.files.ensures.value c.in-Err.ensures.err in
    c.unlist.ensures
    ∙ ap (λ (fs : List Listing). without_pairs c.list.new.listed fs c.args.serial) c.files-in-Err.ensures.value
    ∙ taken_back old c.list.new.listed files c.args.serial c.requires some

pub returns-in-Err-insert-clause-unlisted : goal.returns-in-Err-insert-clause-unlisted
returns-in-Err-insert-clause-unlisted c =
    let old = c.args.listed.now in
    let files = c.args.shard.now.files in
    c.unlist-in-Err-insert.ensures
    ∙ ap (λ (fs : List Listing). without_pairs c.list.new.listed fs c.args.serial) c.files-in-Err-insert.ensures.value
    ∙ ap (λ (m : Listed). without_pairs m files c.args.serial) (c.in_default.ensures.ok ∙ ap (λ (fs : List Listing). with_pairs old fs c.args.serial) c.files.ensures.value)
    ∙ all_back old files c.args.serial c.requires
