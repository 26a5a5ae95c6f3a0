use Rattle.std.proofs.Common.{rules, arith, List, subst}
use Rattle.std.specs.List.{All}
use Rattle.std.proofs.lemmas.Grind.{common_steps}
use Rattle.std.proofs.lemmas.List.{take_all}
use Rattle.std.proofs.lemmas.List.Elements.{All-more}
use Rattle.xet_types.specs.declared.record.XorbRangeDescriptor.{XorbRangeDescriptor}
use Rattle.xet_types.specs.Ranges.{interval}
use Rattle.xet_wire.specs.Texts.{Fits64}
use Rattle.xet_wire.specs.Links.{bytes_of}
use Rattle.xet_wire.proofs.link.push_runs.Goals as goal

abbrev nothing : XorbRangeDescriptor
nothing = record { chunks = interval 0 0; bytes = interval 0 0 }

pub loop-place-preserved : goal.loop-place-preserved
loop-place-preserved c = (first_of (search rules, grind (arith, common_steps)), All-more (λ x. Fits64 (bytes_of x)) c.args.ranges.now c.loop-place.place nothing c.loop-place-test.true c.loop-place.invariant.1 c.in_ok-push_range.ensures.fits)

pub returns-clause-fit : goal.returns-clause-fit
returns-clause-fit c = subst (λ (ds : List XorbRangeDescriptor). All (λ d. Fits64 (bytes_of d)) ds) (take_all c.loop-place.place c.args.ranges.now c.loop-place-test.false) c.loop-place.invariant.1
