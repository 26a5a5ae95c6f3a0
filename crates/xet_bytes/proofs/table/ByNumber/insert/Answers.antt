use Rattle.std.proofs.Common.{sym, ap, ◌∙◌}
use Rattle.std.proofs.lemmas.Result.{err_from_is_err_and}
use Rattle.std.specs.Ordering.{nat_cmp}
use Rattle.std.specs.Cmp.{nat_cmp_total}
use Rattle.std.specs.FinMap.{FinMap, get, insert, nat_cmp-IsAntisymmetric}
use Rattle.xet_bytes.proofs.Maps.{get_is, put_is}
use Rattle.xet_bytes.proofs.table.ByNumber.insert.Goals as goal

pub returns-clause-old : goal.returns-clause-old
returns-clause-old g c = c.in_ok-old.ensures.old ∙ sym (get_is nat_cmp nat_cmp_total nat_cmp-IsAntisymmetric c.self.inside.map.entries c.args.key) ∙ ap (λ (m : FinMap nat_cmp g.row.V.Denot). get m c.args.key) c.self.view_is

pub returns-clause-ok : goal.returns-clause-ok
returns-clause-ok g c = put_is nat_cmp nat_cmp_total nat_cmp-IsAntisymmetric c.self.inside.map.entries c.insert.new.self.entries c.args.key c.args.value c.in_ok-old.ensures.updates.0 ∙ ap (λ (m : FinMap nat_cmp g.row.V.Denot). insert m c.args.key c.args.value) c.self.view_is

pub returns-in_err-old-clause-absent : goal.returns-in_err-old-clause-absent
returns-in_err-old-clause-absent g c =
    let p = err_from_is_err_and c.from_residual.result c.from_residual.ensures.1 in
    rw p.1 (ap (λ (m : FinMap nat_cmp g.row.V.Denot). get m c.args.key) (sym c.self.view_is) ∙ get_is nat_cmp nat_cmp_total nat_cmp-IsAntisymmetric c.self.inside.map.entries c.args.key ∙ c.in_err-old.ensures.absent)
