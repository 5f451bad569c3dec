use Rattle.std.proofs.Common.{◌≤◌, arith}
use Rattle.geo_addr.proofs.Decimals.{digit_at, next_power, room, value_more}
use Rattle.geo_addr.proofs.digits.digits_value.Goals as goal

pub overflow_mul-value : goal.overflow_mul-value
overflow_mul-value c = omega (
  arith,
  room c.loop-digit.value 0 c.loop-digit.digit-index c.loop-digit.invariant.1 (omega arith)
      (omega arith),
)

pub overflow_add-value : goal.overflow_add-value
overflow_add-value c =
    let digit : c.from.result ≤ 9 = omega (
      arith,
      (digit_at c.args.text.now c.loop-digit.digit-index c.requires.digits
          c.loop-digit-test.true).1,
    ) in
    omega (
      arith,
      room c.loop-digit.value c.from.result c.loop-digit.digit-index c.loop-digit.invariant.1 digit
          (omega arith),
    )

pub loop-digit-preserved : goal.loop-digit-preserved
loop-digit-preserved c =
    let digit : c.from.result ≤ 9 = omega (
      arith,
      (digit_at c.args.text.now c.loop-digit.digit-index c.requires.digits
          c.loop-digit-test.true).1,
    ) in
    let more =
    value_more c.args.text.now c.loop-digit.digit-index c.requires.digits
    c.loop-digit-test.true in (
      cc,
      next_power c.loop-digit.value c.from.result c.loop-digit.digit-index
          c.loop-digit.invariant.1 digit,
    )
