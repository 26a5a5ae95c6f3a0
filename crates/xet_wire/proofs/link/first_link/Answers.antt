use Rattle.xet_wire.proofs.LinkTexts.{first_values}
use Rattle.xet_wire.proofs.link.first_link.Goals as goal

pub returns-in_default-from_hex : goal.returns-in_default-from_hex
returns-in_default-from_hex c = λ hash range at s. c.in_default-from_hex.ensures.value hash (first_values c.args.url.now _ _ _ _ hash range at c.in-Some.ensures s).0

pub returns-in_default-number : goal.returns-in_default-number
returns-in_default-number c = λ hash range at s. c.in_default-number.ensures (first_values c.args.url.now _ _ _ _ hash range at c.in-Some.ensures s).1.numeral

pub returns-in_default-number-2 : goal.returns-in_default-number-2
returns-in_default-number-2 c = λ hash range at s. c.in_default-number-2.ensures (first_values c.args.url.now _ _ _ _ hash range at c.in-Some.ensures s).2.numeral

pub returns-in-None : goal.returns-in-None
returns-in-None c = λ hash range at s. c.in-None.ensures (first_values c.args.url.now _ _ _ _ hash range at c.in-Some.ensures s).3.numeral
