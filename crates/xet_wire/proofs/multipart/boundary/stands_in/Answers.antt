use Rattle.std.proofs.Common.{List, ℕ, sym, subst}
use Rattle.std.specs.List.{All}
use Rattle.std.proofs.lemmas.List.{take_all}
use Rattle.std.proofs.lemmas.List.Elements.{All-more}
use Rattle.xet_wire.specs.Multipart.{StandsIn}
use Rattle.xet_wire.proofs.multipart.boundary.stands_in.Goals as goal

pub returns-then-holds : goal.returns-then-holds
returns-then-holds c = λ absent.
    let here = subst (λ (p : List ℕ). ¬ StandsIn c.args.word.now p) (sym c.part-item.is) (absent c.loop-part.part-index c.part-item.result c.loop-part-test.true) in
    subst (λ (p : List ℕ). ¬ StandsIn c.args.word.now p) (sym c.as_slice.ensures) here c.if-holds.ensures

pub loop-part-preserved : goal.loop-part-preserved
loop-part-preserved c =
    let here = subst (λ (p : List ℕ). ¬ StandsIn c.args.word.now p) c.as_slice.ensures c.if-holds.ensures in
    All-more (λ p. ¬ StandsIn c.args.word.now p) c.args.parts.now c.loop-part.part-index c.part-item.result c.loop-part-test.true c.loop-part.invariant (subst (λ (p : List ℕ). ¬ StandsIn c.args.word.now p) c.part-item.is here)

pub returns : goal.returns
returns c = subst (λ (ps : List (List ℕ)). All (λ p. ¬ StandsIn c.args.word.now p) ps) (take_all c.loop-part.part-index c.args.parts.now c.loop-part-test.false) c.loop-part.invariant
