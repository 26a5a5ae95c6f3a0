use Rattle.std.proofs.Common.{◌≡◌, ◌++◌, ◌+◌, ◌-◌, List, ℕ, length, take, drop, arith}
use Rattle.std.proofs.lemmas.Result.{err_from_is_err_and}
use Rattle.std.proofs.lemmas.List.{length-take, length-drop}
use Rattle.xet_demo.specs.Script.{IsInside, steps_of}
use Rattle.xet_demo.proofs.Steps.{past_a_line, next_line, refused_line}
use Rattle.xet_demo.proofs.script.add_lines.Goals as goal

pub lines-preserved : goal.lines-preserved
lines-preserved c =
    let rest : List ℕ = c.lines.rest.now in
    let at : ℕ = c.in-Some.end in
    let line : List ℕ = c.without_return.result.now in
    let back : List ℕ = take (length rest - (at + 1)) (drop (at + 1) rest) in
    let shorter : length back + (at + 1) ≡ length rest = omega (arith, length-take (length rest - (at + 1)) (drop (at + 1) rest), length-drop (at + 1) rest, c.in-Some.ensures.0.high) in
    let added : IsInside line × (c.add_line.new.steps.items ≡ c.lines.steps.items ++ steps_of line) = c.in_ok-add_line.ensures.added in
    let counted : c.add_line.new.number ≡ c.lines.number + 1 = c.in_ok-add_line.ensures.counted in
    record {
      parsed = λ all so. rw counted (past_a_line all rest line back c.lines.number c.lines.steps.items c.add_line.new.steps.items (c.lines.invariant.parsed all so) (next_line rest line at c.in-Some.ensures c.without_return.ensures) (omega (arith, shorter)) added.0 added.1);
      few = omega (arith, c.lines.invariant.few, shorter, counted);
    }

pub returns-in_err-add_line-clause-parsed : goal.returns-in_err-add_line-clause-parsed
returns-in_err-add_line-clause-parsed c =
    let rest : List ℕ = c.lines.rest.now in
    let at : ℕ = c.in-Some.end in
    let line : List ℕ = c.without_return.result.now in
    let back : List ℕ = take (length rest - (at + 1)) (drop (at + 1) rest) in
    let p = err_from_is_err_and c.from_residual.result c.from_residual.ensures.1 in
    λ all so. rw (p.1, p.2) (refused_line all rest line back c.lines.number c.lines.steps.items c.add_line.new.steps.items c.in_err-add_line.field-0.0 (c.lines.invariant.parsed all so) (next_line rest line at c.in-Some.ensures c.without_return.ensures) c.in_err-add_line.ensures.added)
