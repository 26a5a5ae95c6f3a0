use Rattle.std.proofs.Common.{arith, rules, ◌≡◌, take}
use Rattle.std.specs.Str.{IsUtf8}
use Rattle.xet_wire.proofs.TwentyDigits.{at_number, no_text, too_short, no_plus_first}
use Rattle.xet_wire.proofs.multipart.boundary.number_at.Goals as goal

pub returns-then-bytes-lt-DIGITS : goal.returns-then-bytes-lt-DIGITS
returns-then-bytes-lt-DIGITS c = too_short c.args.bytes.now c.if-bytes-lt-DIGITS.true

pub returns-then-bytes-eq43 : goal.returns-then-bytes-eq43
returns-then-bytes-eq43 c = λ n rest small e. no_plus_first n c.args.bytes.now rest small e c.if-bytes-eq43.true

pub returns-in-Ok : goal.returns-in-Ok
returns-in-Ok c =
    let front : c.in-Ok.digits.now ≡ take 20 c.args.bytes.now = search rules in
    at_number c.args.bytes.now c.in-Ok.digits.now c.number.result front (omega (arith, c.if-bytes-lt-DIGITS.false)) c.if-bytes-eq43.false c.number.ensures

pub returns-in-Err : goal.returns-in-Err
returns-in-Err c =
    let none : ¬ IsUtf8 (take 20 c.args.bytes.now) = search rules in
    no_text c.args.bytes.now none
