use Rattle.std.proofs.Common.{◌≡◌, ◌∙◌, ◌∷◌, List, ℕ, Option, None, refl, sym, ap}
use Rattle.std.proofs.lemmas.List.{append-nil}
use denote.Ref.{Bor}
use Rattle.std.specs.Option.{option_copied}
use Rattle.xet_demo.specs.Words.{parts_of, parts_after}
use Rattle.xet_demo.specs.Lines.{words_from}
use Rattle.xet_demo.proofs.Cuts.{no_command}
use Rattle.xet_demo.proofs.script.line.more_words.Goals as goal

pub returns-in-Some : goal.returns-in-Some
returns-in-Some c =
    let parts : parts_of 32 c.args.words.now ≡ c.cut.result.0.now ∷ parts_of 32 c.in-Some.field-0.now = c.cut.ensures ∙ ap (λ (o : Option (Bor (List ℕ))). c.cut.result.0.now ∷ parts_after 32 (option_copied o)) c.in-Some.is in
    let none : words_from c.args.command.now (c.args.first.now ∷ c.args.second.now ∷ parts_of 32 c.args.words.now) ≡ None = no_command c.args.command.now c.args.first.now c.args.second.now c.cut.result.0.now c.args.words.now c.in-Some.field-0.now parts in
    rw none (refl, sym (append-nil c.args.steps.now.items))
