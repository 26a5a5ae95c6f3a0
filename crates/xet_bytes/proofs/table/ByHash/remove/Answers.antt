use Rattle.std.proofs.Common.{sym, ap, ◌∙◌}
use Rattle.xet_types.specs.Names.{hash_cmp}
use Rattle.std.specs.FinMap.{FinMap, get, remove}
use Rattle.xet_bytes.proofs.Maps.{get_is, gone_is, hash_total, hash_exact}
use Rattle.xet_bytes.proofs.table.ByHash.remove.Goals as goal

pub returns-clause-value : goal.returns-clause-value
returns-clause-value g c = c.remove.ensures.value ∙ sym (get_is hash_cmp hash_total hash_exact c.self.inside.map.entries c.args.key.now) ∙ ap (λ (m : FinMap hash_cmp g.row.V.Denot). get m c.args.key.now) c.self.view_is

pub returns-clause-removed : goal.returns-clause-removed
returns-clause-removed g c = gone_is hash_cmp hash_total hash_exact c.self.inside.map.entries c.remove.new.self.entries c.args.key.now c.remove.ensures.updates.0 ∙ ap (λ (m : FinMap hash_cmp g.row.V.Denot). remove m c.args.key.now) c.self.view_is
