use Rattle.std.proofs.Common.{rules, ◌≡◌, ◌∙◌, map, sym, ap}
use Rattle.std.specs.FinMap.{FinMap, keys}
use Rattle.xet_bytes.specs.Pairs.{hashes_cmp}
use Rattle.xet_bytes.proofs.Maps.{entries_are}
use Rattle.xet_bytes.proofs.Pairs.{hashes_total, hashes_exact}
use Rattle.xet_bytes.proofs.pair.HashPairs.pairs.Goals as goal

pub returns : goal.returns
returns c =
    let entries = c.self.inside.map.entries in
    let taken : c.in_ok-pairs.pairs.items ≡ map (λ e. e.0) entries = search rules in
    taken
    ∙ ap (map (λ e. e.0)) (sym (entries_are hashes_cmp hashes_total hashes_exact entries c.keys.ensures.ordered))
    ∙ ap (λ (m : FinMap hashes_cmp (Unit {0})). keys m) c.self.view_is
