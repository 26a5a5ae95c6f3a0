use Rattle.std.proofs.Common.{get_or}
use Rattle.std.proofs.lemmas.Result.{err_from_is_err_and}
use Rattle.std.proofs.lemmas.List.{get_or_default}
use Rattle.std.specs.List.{flat_map}
use Rattle.xet_bytes.specs.Fields.{le32}
use Rattle.xet_bytes.specs.Reading.{literal_at}
use Rattle.xet_xorb.proofs.Literals.{passes_next, passes_all, passes_none}
use Rattle.xet_xorb.proofs.footer.pass_numbers.Goals as goal

pub returns-in_err-pass_number : goal.returns-in_err-pass_number
returns-in_err-pass_number c =
    let p = err_from_is_err_and c.from_residual.result c.from_residual.ensures.1 in
    let numbers = c.args.numbers.now in
    let i = c.loop-number.number-index in
    rw (p.1, p.2) (passes_none le32 numbers i (get_or numbers i 0) c.in_err-pass_number.field-0.0 c.loop-number.cursor c.pass_number.new.cursor c.pass_number.new.cursor (literal_at (flat_map le32 numbers) c.args.cursor.now) c.loop-number-test.true (get_or_default numbers i 0 (get_or numbers i 0) c.loop-number-test.true) c.in_err-pass_number.ensures c.loop-number.invariant)

pub loop-number-preserved : goal.loop-number-preserved
loop-number-preserved c =
    let numbers = c.args.numbers.now in
    let i = c.loop-number.number-index in
    passes_next le32 numbers i (get_or numbers i 0) c.loop-number.cursor c.pass_number.new.cursor (literal_at (flat_map le32 numbers) c.args.cursor.now) c.loop-number-test.true (get_or_default numbers i 0 (get_or numbers i 0) c.loop-number-test.true) c.in_ok-pass_number.ensures c.loop-number.invariant

pub returns : goal.returns
returns c = passes_all le32 c.args.numbers.now c.loop-number.number-index c.loop-number.cursor (literal_at (flat_map le32 c.args.numbers.now) c.args.cursor.now) c.loop-number-test.false c.loop-number.invariant
