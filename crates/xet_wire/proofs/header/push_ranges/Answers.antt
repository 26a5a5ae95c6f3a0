use Rattle.std.proofs.Common.{rules, arith, ℕ, List, subst}
use Rattle.std.specs.List.{All}
use Rattle.std.proofs.lemmas.Grind.{common_steps}
use Rattle.std.proofs.lemmas.List.{take_all}
use Rattle.std.proofs.lemmas.List.Elements.{All-more}
use Rattle.xet_types.specs.declared.range.Range.{Range}
use Rattle.xet_types.specs.declared.range._H.{_H}
use Rattle.xet_types.specs.Ranges.{interval}
use Rattle.xet_wire.specs.Texts.{Fits64}
use Rattle.xet_wire.proofs.header.push_ranges.Goals as goal

abbrev nothing : Range ℕ _H
nothing = interval 0 0

pub loop-place-preserved : goal.loop-place-preserved
loop-place-preserved c = (first_of (search rules, grind (arith, common_steps)), All-more (λ r. Fits64 r) c.args.ranges.now c.loop-place.place nothing c.loop-place-test.true c.loop-place.invariant.1 c.in_ok-push_range.ensures.fits)

pub returns-clause-fit : goal.returns-clause-fit
returns-clause-fit c = subst (λ (rs : List (Range ℕ _H)). All (λ r. Fits64 r) rs) (take_all c.loop-place.place c.args.ranges.now c.loop-place-test.false) c.loop-place.invariant.1
