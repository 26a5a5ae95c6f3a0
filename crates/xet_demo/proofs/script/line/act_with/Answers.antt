use Rattle.std.proofs.Common.{List, ℕ, sym, subst}
use Rattle.xet_demo.specs.Lines.{Adds, line_with, words_from}
use Rattle.xet_demo.proofs.Cuts.{cut_twice}
use Rattle.xet_demo.proofs.script.line.act_with.Goals as goal

pub returns-in-Some-rest : goal.returns-in-Some-rest
returns-in-Some-rest c =
    let For : List (List ℕ) → Type 0 = λ parts. Adds (line_with c.args.at (words_from c.args.command.now parts)) c.args.steps.now.items c.more_words.new.steps.items c.more_words.result in
    subst For
    (sym (cut_twice 32 c.args.words.now c.cut.result.0.now c.cut-2.result.0.now c.cut.result.1 c.cut-2.result.1 c.in-Some.rest c.in-Some-rest.rest c.cut.ensures c.in-Some.is c.cut-2.ensures c.in-Some-rest.is))
    c.more_words.ensures
