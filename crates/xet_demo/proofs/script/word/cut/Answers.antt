use Rattle.std.proofs.Common.{◌+◌, ◌∷◌, take, sym, ap, ◌∙◌}
use Rattle.xet_demo.specs.Words.{parts_of}
use Rattle.xet_demo.proofs.Cuts.{parts_found, parts_none, to_the_end}
use Rattle.xet_demo.proofs.script.word.cut.Goals as goal

pub returns-in-Some : goal.returns-in-Some
returns-in-Some c =
    parts_found c.args.separator c.args.text.now c.in-Some.at c.in-Some.ensures
    ∙ ap (λ back. take c.in-Some.at c.args.text.now ∷ parts_of c.args.separator back) (sym (to_the_end c.args.text.now (c.in-Some.at + 1)))

pub returns-in-None : goal.returns-in-None
returns-in-None c = parts_none c.args.separator c.args.text.now c.in-None.ensures
