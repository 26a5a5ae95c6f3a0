use Rattle.std.proofs.Common.{ℕ, List, [], subst, rules}
use Rattle.std.proofs.lemmas.Result.{err_from_is_err_and}
use Rattle.xet_wire.specs.Texts.{pieces_of}
use Rattle.xet_wire.proofs.Lists.{GoesOn, pieces_cut, pieces_none, goes_more, goes_all, refused}
use Rattle.xet_wire.proofs.text.read_ranges.Goals as goal

pub returns-in_err-add_piece : goal.returns-in_err-add_piece
returns-in_err-add_piece g c =
    let on = subst (λ (t : List (List ℕ)). GoesOn (pieces_of c.args.text.now) c.loop-piece.ranges.items t) (pieces_cut _ _ _ c.in-Some.ensures) c.loop-piece.invariant.1 in
    let p = err_from_is_err_and c.from_residual.result c.from_residual.ensures.1 in
    rw (p.1, p.2) (refused c.args.text.now c.loop-piece.ranges.items c.add_piece.new.ranges.items c.in-Some.piece.now (pieces_of c.in-Some.more.now) _ on c.in_err-add_piece.ensures)

pub loop-piece-preserved : goal.loop-piece-preserved
loop-piece-preserved g c =
    (search rules, goes_more (pieces_of c.args.text.now) c.loop-piece.ranges.items c.add_piece.new.ranges.items c.in-Some.piece.now (pieces_of c.in-Some.more.now) (rw (← pieces_cut _ _ _ c.in-Some.ensures) c.loop-piece.invariant.1) c.in_ok-add_piece.ensures)

pub returns-in_err-add_piece-2 : goal.returns-in_err-add_piece-2
returns-in_err-add_piece-2 g c =
    let on = subst (λ (t : List (List ℕ)). GoesOn (pieces_of c.args.text.now) c.loop-piece.ranges.items t) (pieces_none _ c.in_default.ensures) c.loop-piece.invariant.1 in
    let p = err_from_is_err_and c.from_residual-in_err-add_piece-2.result c.from_residual-in_err-add_piece-2.ensures.1 in
    rw (p.1, p.2) (refused c.args.text.now c.loop-piece.ranges.items c.add_piece-2.new.ranges.items c.loop-piece.rest.now [] _ on c.in_err-add_piece-2.ensures)

pub returns : goal.returns
returns g c =
    let on = subst (λ (t : List (List ℕ)). GoesOn (pieces_of c.args.text.now) c.loop-piece.ranges.items t) (pieces_none _ c.in_default.ensures) c.loop-piece.invariant.1 in
    goes_all (pieces_of c.args.text.now) _ (goes_more (pieces_of c.args.text.now) _ _ _ [] on c.in_ok-add_piece-2.ensures)
