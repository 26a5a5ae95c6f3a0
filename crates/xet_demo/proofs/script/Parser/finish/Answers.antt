use Rattle.std.proofs.Common.{eqb, ap, arith, ◌∙◌, ◌≡◌, ◌∷◌, ◌<◌, ◌++◌, [], List, ℕ, length, sym, subst}
use Rattle.std.specs.Prelude.{Err}
use Rattle.std.proofs.lemmas.Result.{err_from_is_err_and}
use Rattle.xet_service.specs.declared.step.Step.{Step}
use Rattle.xet_demo.specs.Script.{lines_of, HasParsed, IsInside, IsParsedTo, Parsed, AddsStepsOf, steps_of}
use Rattle.xet_demo.proofs.Steps.{last_line, refused_end, some_bytes, with_the_last, to_the_last, no_more, no_bytes}
use Rattle.xet_demo.proofs.script.Parser.finish.Goals.{then-not-is_empty+in_ok-add_line, else-not-is_empty}
use Rattle.xet_demo.proofs.script.Parser.finish.Goals as goal

pub returns-in_err-add_line : goal.returns-in_err-add_line
returns-in_err-add_line c =
    let line : List ℕ = c.self.inside.line.items in
    let counted : c.self.inside.line.len ≡ length line = omega (arith, c.self.inside.line.ok.0) in
    let number : ℕ = c.self.inside.number in
    let steps : List Step = c.self.inside.steps.items in
    let p = err_from_is_err_and c.from_residual.result c.from_residual.ensures.1 in
    let some : 0 < length line = some_bytes line (c.if-not-is_empty.ensures ∙ ap (λ (n : ℕ). eqb n 0) counted) in
    λ text so.
    let parsed : IsParsedTo text line number steps = subst (λ (p : Parsed). HasParsed text p) (sym c.self.view_is) so in
    let refused : AddsStepsOf line number steps c.add_line.new.steps.items (Err c.in_err-add_line.field-0.0)
    = subst (λ (t : List ℕ). AddsStepsOf t number steps c.add_line.new.steps.items (Err c.in_err-add_line.field-0.0)) c.deref.ensures.value c.in_err-add_line.ensures.added in
    rw (p.1, p.2) (refused_end text line number steps c.add_line.new.steps.items c.in_err-add_line.field-0.0 parsed (last_line line c.self.invariant some) refused)

pub returns : goal.returns
returns c = λ text so.
    let line : List ℕ = c.self.inside.line.items in
    let counted : c.self.inside.line.len ≡ length line = omega (arith, c.self.inside.line.ok.0) in
    let number : ℕ = c.self.inside.number in
    let steps : List Step = c.self.inside.steps.items in
    let parsed : IsParsedTo text line number steps = subst (λ (p : Parsed). HasParsed text p) (sym c.self.view_is) so in
    elim c.if-not-is_empty.branch [
      | then-not-is_empty+in_ok-add_line w ↦
          (let added : IsInside line × (w.add_line.new.steps.items ≡ steps ++ steps_of line)
          = subst (λ (t : List ℕ). IsInside t × (w.add_line.new.steps.items ≡ steps ++ steps_of t)) w.deref.ensures.value w.in_ok-add_line.ensures.added in
          rw w.steps-is (with_the_last text line number steps w.add_line.new.steps.items parsed (last_line line c.self.invariant (some_bytes line (w.if-not-is_empty.ensures ∙ ap (λ (n : ℕ). eqb n 0) counted))) added.0 added.1))
      | else-not-is_empty w ↦ rw w.steps-is (to_the_last text line number steps parsed (no_more line c.self.invariant (no_bytes line (w.if-not-is_empty.ensures ∙ ap (λ (n : ℕ). eqb n 0) counted))))
    ]
