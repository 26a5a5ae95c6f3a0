use Rattle.std.proofs.Common.{Ok, Some, ap}
use Rattle.xet_wire.proofs.HeaderTexts.{means_once}
use Rattle.xet_wire.proofs.header.parse_range_header.Goals as goal

pub returns-in-Some-meaning-clause-reads : goal.returns-in-Some-meaning-clause-reads
returns-in-Some-meaning-clause-reads c = rw c.in-Some.is (λ asked means. ap (λ a. Ok (Some a)) (means_once _ _ asked c.in-Some-meaning.ensures means))

pub returns-in-None-meaning-clause-reads : goal.returns-in-None-meaning-clause-reads
returns-in-None-meaning-clause-reads c = rw c.in-Some.is (λ asked means. absurd (c.in-None-meaning.ensures asked means))
