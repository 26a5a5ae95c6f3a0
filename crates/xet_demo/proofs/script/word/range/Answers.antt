use Rattle.std.proofs.Common.{◌≡◌, false, sym, rules}
use Rattle.std.specs.Prelude.{codes}
use Rattle.xet_demo.specs.Words.{is_word}
use Rattle.xet_demo.proofs.Cuts.{cut_twice, no_range}
use Rattle.xet_demo.proofs.script.word.range.Goals as goal

pub returns-in-Some : goal.returns-in-Some
returns-in-Some c =
    let other : is_word c.args.word.now (codes "all") ≡ false = search rules in
    sym (no_range c.args.word.now c.cut.result.0.now c.cut-2.result.0.now c.in-Some.field-0.now other
    (cut_twice 45 c.args.word.now c.cut.result.0.now c.cut-2.result.0.now c.cut.result.1 c.cut-2.result.1 c.in_ok-rest.field-0 c.in-Some.field-0 c.cut.ensures c.in_ok-rest.was c.cut-2.ensures c.in-Some.is))
