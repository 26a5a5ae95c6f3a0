use Rattle.std.proofs.Common.{sym, ap, ◌∙◌}
use Rattle.xet_types.specs.Names.{hash_cmp}
use Rattle.std.specs.FinMap.{FinMap, get}
use Rattle.xet_bytes.proofs.Maps.{get_is, hash_total, hash_exact}
use Rattle.xet_bytes.proofs.table.ByHash.get.Goals as goal

pub returns : goal.returns
returns g c = c.get.ensures.value ∙ sym (get_is hash_cmp hash_total hash_exact c.self.inside.map.entries c.args.key.now) ∙ ap (λ (m : FinMap hash_cmp g.row.V.Denot). get m c.args.key.now) c.self.view_is
