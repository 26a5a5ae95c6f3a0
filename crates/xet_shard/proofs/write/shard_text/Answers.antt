use Rattle.std.proofs.Common.{rules}
use Rattle.xet_shard.specs.Listings.{shard_with}
use Rattle.xet_shard.proofs.ShardLaws.{read_back}
use Rattle.xet_shard.proofs.write.shard_text.Goals as goal

pub returns-clause-text : goal.returns-clause-text
returns-clause-text c = search rules

pub returns-clause-read_back : goal.returns-clause-read_back
returns-clause-read_back c =
    read_back c.in_ok-from_vec.field-0 (shard_with c.args.expiry c.args.files.now c.args.xorbs.now) (returns-clause-text c) c.in_ok-put_shard.ensures.fits
