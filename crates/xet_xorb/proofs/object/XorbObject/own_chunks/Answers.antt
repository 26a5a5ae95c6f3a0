use Rattle.std.proofs.lemmas.Bool.{false≢true}
use Rattle.std.proofs.lemmas.Result.{err_from_is_err_and}
use Rattle.xet_xorb.proofs.Owning.{unread_own, not_own}
use Rattle.xet_xorb.proofs.object.XorbObject.own_chunks.Goals as goal

pub returns-in_err-read : goal.returns-in_err-read
returns-in_err-read c =
    let p = err_from_is_err_and c.from_residual.result c.from_residual.ensures.1 in
    rw (p.1, p.2) (unread_own c.in_err-read.field-0.0 c.args.self.now c.args.content.now c.in_err-read.ensures)

pub returns-then-not-is_same : goal.returns-then-not-is_same
returns-then-not-is_same c = not_own c.args.content.now c.args.self.now c.in_ok-read.read c.in_ok-read.ensures (λ same. false≢true (c.if-not-is_same.ensures.1 same))
