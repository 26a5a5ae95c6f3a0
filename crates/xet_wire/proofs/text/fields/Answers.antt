use Rattle.xet_wire.proofs.Marks.{no_fields, no_three, no_two, fields_joined}
use Rattle.xet_wire.proofs.text.fields.Goals as goal

pub returns-in_default : goal.returns-in_default
returns-in_default c = no_fields c.args.text.now c.in_default.ensures

pub returns-in_default-cut_at_last_colon : goal.returns-in_default-cut_at_last_colon
returns-in_default-cut_at_last_colon c = no_three c.args.text.now _ _ c.in-Some.ensures c.in_default-cut_at_last_colon.ensures

pub returns-in_default-cut_at_last_colon-2 : goal.returns-in_default-cut_at_last_colon-2
returns-in_default-cut_at_last_colon-2 c = no_two c.args.text.now _ _ _ _ c.in-Some.ensures c.in-Some-cut_at_last_colon.ensures c.in_default-cut_at_last_colon-2.ensures

pub returns : goal.returns
returns c = fields_joined c.args.text.now _ _ _ _ _ _ c.in-Some.ensures c.in-Some-cut_at_last_colon.ensures c.in-Some-cut_at_last_colon-2.ensures
