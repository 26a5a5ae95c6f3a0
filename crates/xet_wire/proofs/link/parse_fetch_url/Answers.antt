use Rattle.std.proofs.Common.{refl}
use Rattle.xet_wire.proofs.LinkTexts.{first_once}
use Rattle.xet_wire.proofs.link.parse_fetch_url.Goals as goal

pub returns-in-Some-clause-reads : goal.returns-in-Some-clause-reads
returns-in-Some-clause-reads c = λ hash range at s.
    let same = first_once c.args.url.now _ _ _ _ _ _ c.in-Some.ensures s in
    rw (← same.0, ← same.1, ← same.2) refl

pub returns-in-None-clause-reads : goal.returns-in-None-clause-reads
returns-in-None-clause-reads c = λ hash range at s. absurd (c.in-None.ensures hash range at s)
