use Rattle.std.proofs.Common.{◌≡◌, ◌∙◌, ◌-◌, ℕ, true, false, List, length, sym, arith, rules}
use Rattle.std.specs.Char.{is_ascii}
use Rattle.xet_demo.proofs.AsciiParts.{part_fails, part_holds, last_part}
use Rattle.xet_demo.proofs.script.line.is_ascii_text.Goals as goal

pub returns-then-not-is_ascii_part : goal.returns-then-not-is_ascii_part
returns-then-not-is_ascii_part c =
    let fails : c.is_ascii_part.result ≡ false = search rules in
    sym (part_fails is_ascii c.args.text.now c.parts.at (sym c.is_ascii_part.ensures ∙ fails))

pub parts-preserved : goal.parts-preserved
parts-preserved c =
    let holds : c.is_ascii_part.result ≡ true = search rules in
    record {
      within = omega (arith, c.parts-test.true, c.if-text-lt16.false);
      ascii = part_holds is_ascii c.args.text.now c.parts.at c.parts.invariant.ascii (sym c.is_ascii_part.ensures ∙ holds);
    }

pub returns : goal.returns
returns c =
    let text : List ℕ = c.args.text.now in
    let last : ℕ = length text - 16 in
    c.is_ascii_part-2.ensures ∙ last_part is_ascii text last c.parts.at (omega (arith, c.if-text-lt16.false)) (omega (arith, c.parts-test.false)) c.parts.invariant.ascii
