use Rattle.std.proofs.Common.{sym, ap, ◌∙◌}
use Rattle.std.specs.Ordering.{nat_cmp}
use Rattle.std.specs.Cmp.{nat_cmp_total}
use Rattle.std.specs.FinMap.{FinMap, get, nat_cmp-IsAntisymmetric}
use Rattle.xet_bytes.proofs.Maps.{get_is}
use Rattle.xet_bytes.proofs.table.ByNumber.get.Goals as goal

pub returns : goal.returns
returns g c = c.get.ensures.value ∙ sym (get_is nat_cmp nat_cmp_total nat_cmp-IsAntisymmetric c.self.inside.map.entries c.args.key) ∙ ap (λ (m : FinMap nat_cmp g.row.V.Denot). get m c.args.key) c.self.view_is
