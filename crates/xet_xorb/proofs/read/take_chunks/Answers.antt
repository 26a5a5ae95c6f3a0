use Rattle.std.proofs.Common.{◌≡◌, eqb, true, false, length, List, ℕ, ap}
use Rattle.std.proofs.lemmas.Result.{err_from_is_err_and}
use Rattle.xet_xorb.proofs.ChunkText.{some_left, none_left}
use Rattle.xet_xorb.proofs.WholeText.{stops_by, is_empty, are_whole}
use Rattle.xet_xorb.proofs.read.take_chunks.Goals as goal

pub returns-in_err-chunk : goal.returns-in_err-chunk
returns-in_err-chunk c =
    let p = err_from_is_err_and c.from_residual-in_err-chunk.result c.from_residual-in_err-chunk.ensures.1 in
    let test : eqb (length c.loop-rest.rest) 0 ≡ false = cc in
    rw (p.1, p.2) (stops_by {X = List ℕ} (λ x. x) (λ x. c.take_chunk.new.rest) c.in_err-chunk.field-0.0 c.args.content.now c.loop-rest.whole.items c.loop-rest.rest (some_left c.loop-rest.rest test) c.loop-rest.invariant c.in_err-chunk.ensures)

pub returns-then-is_empty : goal.returns-then-is_empty
returns-then-is_empty c = λ others.
    let test : eqb (length c.loop-rest.rest) 0 ≡ true = cc in
    let none : eqb (length c.loop-rest.whole.items) 0 ≡ true = cc in
    is_empty c.args.content.now c.loop-rest.whole.items others c.loop-rest.rest c.loop-rest.invariant (none_left c.loop-rest.rest test) (ap length (none_left c.loop-rest.whole.items none))

pub returns : goal.returns
returns c =
    let test : eqb (length c.loop-rest.rest) 0 ≡ true = cc in
    let some : eqb (length c.loop-rest.whole.items) 0 ≡ false = cc in
    are_whole c.args.content.now c.loop-rest.whole.items c.loop-rest.rest c.loop-rest.invariant (none_left c.loop-rest.rest test) (some_left c.loop-rest.whole.items some)
