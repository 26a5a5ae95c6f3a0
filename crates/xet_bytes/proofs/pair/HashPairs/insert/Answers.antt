use Rattle.std.proofs.Common.{ap, ◌∙◌}
use Rattle.std.specs.FinMap.{FinMap, insert}
use Rattle.xet_bytes.specs.Pairs.{hashes_cmp}
use Rattle.xet_bytes.proofs.Maps.{put_is}
use Rattle.xet_bytes.proofs.Pairs.{hashes_total, hashes_exact}
use Rattle.xet_bytes.proofs.pair.HashPairs.insert.Goals as goal

pub returns-clause-ok : goal.returns-clause-ok
returns-clause-ok c =
    put_is hashes_cmp hashes_total hashes_exact c.self.inside.map.entries c.insert.new.self.entries (c.args.first, c.args.second) tt c.in_ok-_old.ensures.updates.0
    ∙ ap (λ (m : FinMap hashes_cmp (Unit {0})). insert m (c.args.first, c.args.second) tt) c.self.view_is
