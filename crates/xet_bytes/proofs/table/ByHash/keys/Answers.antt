use Rattle.std.proofs.Common.{rules, ◌≡◌, ◌∙◌, map, sym, ap}
use Rattle.std.specs.FinMap.{FinMap, keys}
use Rattle.xet_types.specs.Names.{hash_cmp}
use Rattle.xet_bytes.proofs.Maps.{entries_are, hash_total, hash_exact}
use Rattle.xet_bytes.proofs.table.ByHash.keys.Goals as goal

pub returns : goal.returns
returns g c =
    let entries = c.self.inside.map.entries in
    let taken : c.in_ok-keys.keys.items ≡ map (λ e. e.0) entries = search rules in
    taken
    ∙ ap (map (λ e. e.0)) (sym (entries_are hash_cmp hash_total hash_exact entries c.keys.ensures.ordered))
    ∙ ap (λ (m : FinMap hash_cmp g.row.V.Denot). keys m) c.self.view_is
