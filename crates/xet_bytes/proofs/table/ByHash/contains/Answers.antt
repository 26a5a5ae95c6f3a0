use Rattle.std.proofs.Common.{sym, ap, ◌∙◌}
use Rattle.std.specs.Option.{is_some}
use Rattle.std.specs.FinMap.{FinMap, get}
use Rattle.xet_types.specs.Names.{hash_cmp}
use Rattle.xet_bytes.proofs.Maps.{get_is, hash_total, hash_exact}
use Rattle.xet_bytes.proofs.table.ByHash.contains.Goals as goal

pub returns : goal.returns
returns g c = c.contains_key.ensures ∙ ap is_some (sym (get_is hash_cmp hash_total hash_exact c.self.inside.map.entries c.args.key.now) ∙ ap (λ (m : FinMap hash_cmp g.row.V.Denot). get m c.args.key.now) c.self.view_is)
