use Rattle.std.proofs.lemmas.Result.{err_from_is_err_and}
use Rattle.xet_xorb.proofs.Owning.{unread, not_true, no_footer}
use Rattle.xet_xorb.proofs.object.XorbObject.deserialize.Goals as goal

pub returns-in_err-read : goal.returns-in_err-read
returns-in_err-read c =
    let p = err_from_is_err_and c.from_residual.result c.from_residual.ensures.1 in
    rw (p.1, p.2) (unread c.in_err-read.field-0.0 c.args.content.now c.in_err-read.ensures)

pub returns-then-not-read : goal.returns-then-not-read
returns-then-not-read c = no_footer c.args.content.now c.in_ok-read.read c.in_ok-read.ensures (not_true c.in_ok-read.read.has_footer c.if-not-read.true)
