use Rattle.std.proofs.Common.{◌∙◌, List, sym, ap}
use Rattle.std.specs.Option.{option_copied}
use Rattle.xet_shard.specs.Listings.{ShardModel}
use Rattle.xet_store.specs.StoreModel.{shard_named}
use Rattle.xet_store.proofs.Indexed.{named_at, named_nowhere}
use Rattle.xet_store.proofs.memory.shards.ShardTable.get.Goals as goal

pub returns-in_err-serial : goal.returns-in_err-serial
returns-in_err-serial c =
    let t = c.self.inside in
    ap option_copied c.from_residual.ensures
    ∙ sym (named_nowhere t.kept t.by_name t.listed t.next c.args.name.now c.self.invariant (sym c.in_err-serial.ensures)).0
    ∙ ap (λ (ss : List ShardModel). shard_named ss c.args.name.now) c.self.view_is

pub returns : goal.returns
returns c =
    let t = c.self.inside in
    c.get-2.ensures
    ∙ sym (named_at t.kept t.by_name t.listed t.next c.args.name.now c.in_ok-serial.serial.now c.self.invariant (sym c.in_ok-serial.ensures))
    ∙ ap (λ (ss : List ShardModel). shard_named ss c.args.name.now) c.self.view_is
