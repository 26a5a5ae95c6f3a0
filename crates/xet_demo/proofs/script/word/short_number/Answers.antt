use Rattle.std.proofs.Common.{arith}
use Rattle.xet_demo.proofs.Numbers.{few_digits}
use Rattle.xet_demo.proofs.script.word.short_number.Goals as goal

pub overflow_mul-value : goal.overflow_mul-value
overflow_mul-value c = record { fits = omega (arith, few_digits c.loop-digit.value c.loop-digit.digit-index c.loop-digit.invariant.small (omega (arith, c.loop-digit-test.true, c.requires))) }

pub overflow_add-value : goal.overflow_add-value
overflow_add-value c = record { fits = omega (arith, few_digits c.loop-digit.value c.loop-digit.digit-index c.loop-digit.invariant.small (omega (arith, c.loop-digit-test.true, c.requires)), c.from.ensures, c.if-not-is_ascii_digit.ensures.bound) }
