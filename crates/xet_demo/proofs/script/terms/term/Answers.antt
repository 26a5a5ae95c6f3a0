use Rattle.std.proofs.Common.{sym}
use Rattle.xet_demo.proofs.Cuts.{cut_twice}
use Rattle.xet_demo.proofs.TermWords.{no_term}
use Rattle.xet_demo.proofs.script.terms.term.Goals as goal

pub returns-in-Some : goal.returns-in-Some
returns-in-Some c =
    sym (no_term c.args.word.now c.cut.result.0.now c.cut-2.result.0.now c.in-Some.field-0.now
    (cut_twice 58 c.args.word.now c.cut.result.0.now c.cut-2.result.0.now c.cut.result.1 c.cut-2.result.1 c.in_ok-rest.field-0 c.in-Some.field-0 c.cut.ensures c.in_ok-rest.was c.cut-2.ensures c.in-Some.is))
