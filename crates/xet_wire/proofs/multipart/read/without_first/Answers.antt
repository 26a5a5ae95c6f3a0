use Rattle.std.proofs.Common.{◌∙◌, arith}
use Rattle.std.proofs.lemmas.List.{take_rest}
use Rattle.xet_wire.proofs.MultipartReads.{first_quotes}
use Rattle.xet_wire.proofs.multipart.read.without_first.Goals as goal

pub returns-then-text-start-ne34 : goal.returns-then-text-start-ne34
returns-then-text-start-ne34 c = take_rest c.args.text.now c.loop-start.start ∙ first_quotes c.args.text.now c.loop-start.start c.loop-start.invariant.0 c.loop-start.invariant.1 (λ _. c.if-text-start-ne34.true)

pub returns : goal.returns
returns c = take_rest c.args.text.now c.loop-start.start ∙ first_quotes c.args.text.now c.loop-start.start c.loop-start.invariant.0 c.loop-start.invariant.1 (λ lt. absurd (omega (arith, lt, c.loop-start-test.false)))
