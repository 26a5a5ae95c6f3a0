use Rattle.std.proofs.Common.{rules}
use Rattle.std.proofs.lemmas.Fn.{always_returns_same}
use Rattle.xet_types.specs.Names.{hash_cmp}
use Rattle.xet_shard.specs.Values.{Listing}
use Rattle.xet_store.proofs.Search.{found_listing, no_listing}
use Rattle.xet_store.proofs.memory.shards.KeptShard.listing.Goals as goal

pub returns-in-Ok : goal.returns-in-Ok
returns-in-Ok c =
    found_listing c.files-files.result.now c.args.self.now.files c.args.file.now c.in-Ok.place c.index-files-place.result c.files-files.ensures.value c.files-files.ensures.rises c.in-Ok.ensures.bound c.index-files-place.is
    (c.in-Ok.ensures.position (λ (l : Listing). hash_cmp l.file_hash c.args.file.now) (always_returns_same _ _ _ (λ a r f k. (search rules, search rules))))

pub returns-in-Err : goal.returns-in-Err
returns-in-Err c =
    no_listing c.files-files.result.now c.args.self.now.files c.args.file.now c.in-Err.field-0 c.files-files.ensures.value c.files-files.ensures.rises
    (c.in-Err.ensures.position (λ (l : Listing). hash_cmp l.file_hash c.args.file.now) (always_returns_same _ _ _ (λ a r f k. (search rules, search rules))))
