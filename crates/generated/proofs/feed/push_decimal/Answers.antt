use Rattle.std.proofs.Common.{arith}
use Rattle.generated.proofs.TextLemmas.{one_digit, two_digits, three_digits}
use Rattle.generated.proofs.feed.push_decimal.Goals as goal

pub returns-in_ok-extend_from_slice : goal.returns-in_ok-extend_from_slice
returns-in_ok-extend_from_slice c =
    rw (
      one_digit c.args.number (omega arith),
      ← c.digit-ones.ensures,
    ) c.in_ok-extend_from_slice.ensures.items

pub returns-in_ok-extend_from_slice-2 : goal.returns-in_ok-extend_from_slice-2
returns-in_ok-extend_from_slice-2 c =
    rw (
      two_digits c.args.number (omega arith) (omega arith),
      ← c.digit-tens.ensures,
      ← c.digit-ones.ensures,
    )
    c.in_ok-extend_from_slice-2.ensures.items

pub returns-in_ok-extend_from_slice-3 : goal.returns-in_ok-extend_from_slice-3
returns-in_ok-extend_from_slice-3 c =
    rw (
      three_digits c.args.number (omega arith) (omega arith),
      ← c.digit-hundreds.ensures,
      ← c.digit-tens.ensures,
      ← c.digit-ones.ensures,
    )
    c.in_ok-extend_from_slice-3.ensures.items
