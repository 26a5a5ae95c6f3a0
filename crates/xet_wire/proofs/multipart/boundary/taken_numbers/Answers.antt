use Rattle.std.proofs.Common.{◌≡◌, [], List, ℕ, sym, subst, rules}
use Rattle.std.proofs.lemmas.List.{take_all}
use Rattle.xet_wire.specs.Multipart.{TakesNumbers}
use Rattle.xet_wire.proofs.Boundaries.{HasTaken, taken_none, taken_more}
use Rattle.xet_wire.proofs.multipart.boundary.taken_numbers.Goals as goal

pub loop-part-init : goal.loop-part-init
loop-part-init c =
    let empty : c.new-taken.result.items ≡ [] = search rules in
    subst (λ (t : List ℕ). HasTaken c.args.parts.now [] t) (sym empty) (taken_none c.args.parts.now)

pub loop-part-preserved : goal.loop-part-preserved
loop-part-preserved c =
    let takes = subst (λ (t : List ℕ). TakesNumbers t c.loop-part.taken.items c.add_numbers.new.taken.items) c.as_slice.ensures c.in_ok-add_numbers.ensures in
    taken_more c.args.parts.now c.loop-part.part-index c.part-item.result c.loop-part.taken.items c.add_numbers.new.taken.items c.loop-part-test.true (sym c.part-item.is) c.loop-part.invariant takes

pub returns-clause-stand : goal.returns-clause-stand
returns-clause-stand c = c.loop-part.invariant.stand

pub returns-clause-all : goal.returns-clause-all
returns-clause-all c =
    let has = subst (λ (ps : List (List ℕ)). HasTaken c.args.parts.now ps c.loop-part.taken.items) (take_all c.loop-part.part-index c.args.parts.now c.loop-part-test.false) c.loop-part.invariant in
    has.all
