use Rattle.std.proofs.Common.{◌≡◌, List, length, ap, arith}
use Rattle.xet_service.specs.Links.{LinkModel}
use Rattle.xet_service.proofs.plan_links.count.Goals as goal

pub returns : goal.returns
returns c =
    let none : length c.loop-count.walk ≡ 0 = ap (λ (ls : List LinkModel). length ls) c.in_default.ensures in
    omega (arith, none, c.loop-count.invariant.counted, c.loop-count.invariant.fits)
