use Rattle.std.proofs.Common.{◌∙◌, map, sym, ap}
use Rattle.std.specs.Ordering.{nat_cmp}
use Rattle.std.specs.Cmp.{nat_cmp_total}
use Rattle.std.specs.FinMap.{FinMap, values, nat_cmp-IsAntisymmetric}
use Rattle.xet_bytes.proofs.Maps.{entries_are}
use Rattle.xet_bytes.proofs.table.ByNumber.values.Goals as goal

pub returns : goal.returns
returns g c =
    c.values.ensures.rest
    ∙ ap (map (λ e. e.1)) (sym (entries_are nat_cmp nat_cmp_total nat_cmp-IsAntisymmetric c.self.inside.map.entries c.values.ensures.ordered))
    ∙ ap (λ (m : FinMap nat_cmp g.row.V.Denot). values m) c.self.view_is
