use Rattle.std.proofs.Common.{arith}
use Rattle.xet_wire.proofs.MultipartReads.{last_quotes}
use Rattle.xet_wire.proofs.multipart.read.without_quotes.Goals as goal

pub returns-then-rest-end-ne34 : goal.returns-then-rest-end-ne34
returns-then-rest-end-ne34 c = last_quotes c.args.text.now c.without_first-rest.result.now c.loop-end.end c.without_first-rest.ensures c.loop-end.invariant.0 c.loop-end.invariant.1 (λ _. c.if-rest-end-ne34.true)

pub returns : goal.returns
returns c = last_quotes c.args.text.now c.without_first-rest.result.now c.loop-end.end c.without_first-rest.ensures c.loop-end.invariant.0 c.loop-end.invariant.1 (λ some. absurd (omega (arith, some, c.loop-end-test.false)))
