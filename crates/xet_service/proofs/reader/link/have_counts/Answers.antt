use Rattle.std.proofs.Common.{◌∙◌, sym}
use Rattle.xet_service.proofs.PartsLaws.{none_counted}
use Rattle.xet_service.proofs.reader.link.have_counts.Goals as goal

pub returns-in_default : goal.returns-in_default
returns-in_default c = sym (none_counted c.args.ranges.now c.loop-range.range-index c.loop-range.rest.now c.loop-range-test.true c.in_default.ensures.cases) ∙ c.loop-range.invariant
