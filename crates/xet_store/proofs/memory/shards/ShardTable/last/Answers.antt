use Rattle.std.proofs.Common.{◌∙◌, List, sym, ap}
use Rattle.std.specs.Option.{option_copied}
use Rattle.xet_shard.specs.Listings.{ShardModel}
use Rattle.xet_store.specs.StoreModel.{last_shard}
use Rattle.xet_store.proofs.Indexed.{last_at, last_nowhere}
use Rattle.xet_store.proofs.memory.shards.ShardTable.last.Goals as goal

pub returns-in_err-serial : goal.returns-in_err-serial
returns-in_err-serial c =
    let t = c.self.inside in
    ap option_copied c.from_residual.ensures
    ∙ sym (last_nowhere t.kept t.by_name t.listed t.next c.args.file.now c.self.invariant c.in_err-serial.ensures)
    ∙ ap (λ (ss : List ShardModel). last_shard ss c.args.file.now) c.self.view_is

pub returns : goal.returns
returns c =
    let t = c.self.inside in
    c.get.ensures
    ∙ last_at t.kept t.by_name t.listed t.next c.args.file.now c.in_ok-serial.serial c.in_ok-serial.field-0-1 c.self.invariant c.in_ok-serial.ensures
    ∙ ap (λ (ss : List ShardModel). last_shard ss c.args.file.now) c.self.view_is
