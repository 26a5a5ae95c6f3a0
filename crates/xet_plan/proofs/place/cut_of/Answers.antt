use Rattle.std.proofs.Common.{◌∙◌, sym, rules}
use Rattle.xet_plan.proofs.place.cut_of.Goals as goal

pub narrow-requires-clause-nonempty : goal.narrow-requires-clause-nonempty
narrow-requires-clause-nonempty c = c.is_agreed.ensures.nonempty

pub returns-clause-answer : goal.returns-clause-answer
returns-clause-answer c = λ known is. (record { xorb = c.args.object.now; is = is; agrees = sym c.is_agreed.ensures.value ∙ search rules; nonempty = c.is_agreed.ensures.nonempty }, rw is c.narrow.ensures.value)
