use Rattle.xet_wire.proofs.Marks.{no_number_then, no_number}
use Rattle.xet_wire.proofs.text.number_then.Goals as goal

pub returns-in_default : goal.returns-in_default
returns-in_default c = no_number_then c.args.text.now c.in_default.ensures

pub returns-in-None : goal.returns-in-None
returns-in-None c = no_number c.args.text.now _ _ c.in-Some.ensures c.in-None.ensures
