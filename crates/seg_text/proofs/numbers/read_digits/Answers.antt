use Rattle.std.proofs.Common.{◌≤◌, length, arith}
use Rattle.seg_text.proofs.DigitLaws.{digits_value}
use Rattle.seg_text.proofs.numbers.read_digits.Goals as goal

pub returns-clause-value : goal.returns-clause-value
returns-clause-value c =
    let found = c.loop-digit.invariant in
    let some : 1 ≤ length c.args.field.now = grind arith in
    digits_value _ c.loop-digit.value c.loop-digit.digit-index some c.if-field-gt10.false found.digits c.loop-digit-test.false found.value
