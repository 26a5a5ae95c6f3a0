use Rattle.std.proofs.Common.{◌≡◌, ◌∷◌, ◌∙◌, ◌++◌, ◌+◌, ◌-◌, ◌<◌, List, ℕ, None, length, take, drop, ap, sym, subst, arith}
use Rattle.std.specs.Str.Lines.{strip_carriage_return}
use Rattle.std.proofs.lemmas.Result.{err_from_is_err_and}
use Rattle.std.proofs.lemmas.List.{length-take, length-drop, length-append}
use Rattle.memchr.specs.Find.{IsFirstByte, is_byte}
use Rattle.xet_service.specs.declared.step.Step.{Step}
use Rattle.xet_demo.specs.Script.{lines_of, HasParsed, IsInside, IsParsedTo, Parsed, steps_of}
use Rattle.xet_demo.proofs.Steps.{line_with, past_a_line, refused_line, with_a_piece}
use Rattle.xet_demo.proofs.script.Parser.take.Goals as goal

pub returns-in_err-add_line : goal.returns-in_err-add_line
returns-in_err-add_line c =
    let front : List ℕ = c.self.inside.line.items in
    let number : ℕ = c.self.inside.number in
    let steps : List Step = c.self.inside.steps.items in
    let piece : List ℕ = c.args.piece.now in
    let at : ℕ = c.in-Some.end in
    let line : List ℕ = c.without_return-line.result.now in
    let back : List ℕ = take (length piece - (at + 1)) (drop (at + 1) piece) in
    let is : line ≡ strip_carriage_return (front ++ take at piece) = c.without_return-line.ensures ∙ ap strip_carriage_return (c.deref.ensures.value ∙ c.in_ok-extend_from_slice-2.ensures.items) in
    let p = err_from_is_err_and c.from_residual-in_err-add_line.result c.from_residual-in_err-add_line.ensures.1 in
    λ text so.
    let parsed : IsParsedTo text front number steps = subst (λ (q : Parsed). HasParsed text q) (sym c.self.view_is) so in
    rw (p.1, p.2) (refused_line (text ++ piece) (front ++ piece) line back number steps c.add_line.new.steps.items c.in_err-add_line.field-0.0 (with_a_piece text front piece number steps parsed) (line_with front piece line at c.self.invariant c.in-Some.ensures is) c.in_err-add_line.ensures.added)

pub returns-in_err-rest : goal.returns-in_err-rest
returns-in_err-rest c =
    let front : List ℕ = c.self.inside.line.items in
    let number : ℕ = c.self.inside.number in
    let steps : List Step = c.self.inside.steps.items in
    let piece : List ℕ = c.args.piece.now in
    let at : ℕ = c.in-Some.end in
    let line : List ℕ = c.without_return-line.result.now in
    let back : List ℕ = take (length piece - (at + 1)) (drop (at + 1) piece) in
    let is : line ≡ strip_carriage_return (front ++ take at piece) = c.without_return-line.ensures ∙ ap strip_carriage_return (c.deref.ensures.value ∙ c.in_ok-extend_from_slice-2.ensures.items) in
    let shorter : length back < length (front ++ piece) = omega (arith, length-take (length piece - (at + 1)) (drop (at + 1) piece), length-drop (at + 1) piece, c.in-Some.ensures.0.high, length-append front piece) in
    let added : IsInside line × (c.add_line.new.steps.items ≡ steps ++ steps_of line) = c.in_ok-add_line.ensures.added in
    let counted : c.add_line.new.number ≡ number + 1 = c.in_ok-add_line.ensures.counted in
    let p = err_from_is_err_and c.from_residual-in_err-rest.result c.from_residual-in_err-rest.ensures.1 in
    λ text so.
    let parsed : IsParsedTo text front number steps = subst (λ (q : Parsed). HasParsed text q) (sym c.self.view_is) so in
    let further : IsParsedTo (text ++ piece) back (number + 1) c.add_line.new.steps.items
    = past_a_line (text ++ piece) (front ++ piece) line back number steps c.add_line.new.steps.items (with_a_piece text front piece number steps parsed) (line_with front piece line at c.self.invariant c.in-Some.ensures is) shorter added.0 added.1 in
    rw (p.1, p.2) (c.in_err-rest.ensures.parsed (text ++ piece) (rw counted further))

pub invariant_of-self-2 : goal.invariant_of-self-2
invariant_of-self-2 c =
    let only : c.extend_from_slice-3.new.self.items ≡ c.in_ok-rest.rest.now = c.in_ok-extend_from_slice-3.ensures.items ∙ ap (λ (front : List ℕ). front ++ c.in_ok-rest.rest.now) c.clear.ensures.items in
    subst (λ (items : List ℕ). IsFirstByte (is_byte 10) items None) (sym only) c.in_ok-rest.ensures.behind

pub returns : goal.returns
returns c =
    let front : List ℕ = c.self.inside.line.items in
    let number : ℕ = c.self.inside.number in
    let steps : List Step = c.self.inside.steps.items in
    let piece : List ℕ = c.args.piece.now in
    let at : ℕ = c.in-Some.end in
    let line : List ℕ = c.without_return-line.result.now in
    let back : List ℕ = take (length piece - (at + 1)) (drop (at + 1) piece) in
    let is : line ≡ strip_carriage_return (front ++ take at piece) = c.without_return-line.ensures ∙ ap strip_carriage_return (c.deref.ensures.value ∙ c.in_ok-extend_from_slice-2.ensures.items) in
    let shorter : length back < length (front ++ piece) = omega (arith, length-take (length piece - (at + 1)) (drop (at + 1) piece), length-drop (at + 1) piece, c.in-Some.ensures.0.high, length-append front piece) in
    let added : IsInside line × (c.add_line.new.steps.items ≡ steps ++ steps_of line) = c.in_ok-add_line.ensures.added in
    let counted : c.add_line.new.number ≡ number + 1 = c.in_ok-add_line.ensures.counted in
    let only : c.extend_from_slice-3.new.self.items ≡ c.in_ok-rest.rest.now = c.in_ok-extend_from_slice-3.ensures.items ∙ ap (λ (before : List ℕ). before ++ c.in_ok-rest.rest.now) c.clear.ensures.items in
    λ text so.
    let parsed : IsParsedTo text front number steps = subst (λ (q : Parsed). HasParsed text q) (sym c.self.view_is) so in
    let further : IsParsedTo (text ++ piece) back (number + 1) c.add_line.new.steps.items
    = past_a_line (text ++ piece) (front ++ piece) line back number steps c.add_line.new.steps.items (with_a_piece text front piece number steps parsed) (line_with front piece line at c.self.invariant c.in-Some.ensures is) shorter added.0 added.1 in
    rw only (c.in_ok-rest.ensures.parsed (text ++ piece) (rw counted further))
