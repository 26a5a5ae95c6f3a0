use Rattle.std.proofs.Common.{sym, ap, ◌∙◌}
use Rattle.std.specs.Ordering.{nat_cmp}
use Rattle.std.specs.Cmp.{nat_cmp_total}
use Rattle.std.specs.FinMap.{FinMap, get, remove, nat_cmp-IsAntisymmetric}
use Rattle.xet_bytes.proofs.Maps.{get_is, gone_is}
use Rattle.xet_bytes.proofs.table.ByNumber.remove.Goals as goal

pub returns-clause-value : goal.returns-clause-value
returns-clause-value g c = c.remove.ensures.value ∙ sym (get_is nat_cmp nat_cmp_total nat_cmp-IsAntisymmetric c.self.inside.map.entries c.args.key) ∙ ap (λ (m : FinMap nat_cmp g.row.V.Denot). get m c.args.key) c.self.view_is

pub returns-clause-removed : goal.returns-clause-removed
returns-clause-removed g c = gone_is nat_cmp nat_cmp_total nat_cmp-IsAntisymmetric c.self.inside.map.entries c.remove.new.self.entries c.args.key c.remove.ensures.updates.0 ∙ ap (λ (m : FinMap nat_cmp g.row.V.Denot). remove m c.args.key) c.self.view_is
