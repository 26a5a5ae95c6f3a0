use Rattle.std.proofs.Common.{◌∙◌, sym}
use Rattle.xet_service.proofs.PartsLaws.{none_are}
use Rattle.xet_service.proofs.reader.parts.are_of.Goals as goal

pub returns-in_default : goal.returns-in_default
returns-in_default c = sym (none_are c.args.ranges.now c.loop-range.range-index c.loop-range.rest.now c.loop-range-test.true c.in_default.ensures.cases) ∙ c.loop-range.invariant
