-- What the text writes follows from its length.
use Rattle.std.proofs.Common.{◌≡◌, length, arith}
use Rattle.geo_addr.proofs.Decimals.{none_empty, none_long, one_short, two_short, three_short}
use Rattle.geo_addr.proofs.digits.short_decimal.Goals as goal

pub returns-in-len1-clause-value : goal.returns-in-len1-clause-value
returns-in-len1-clause-value c =
    let one : length c.args.text.now ≡ 1 =
    omega (arith, c.in-len1.len_at_least, c.in-len1.len_below) in
    one_short c.args.text.now c.digit.result one c.digit.ensures

pub returns-in-len2-clause-value : goal.returns-in-len2-clause-value
returns-in-len2-clause-value c =
    let two : length c.args.text.now ≡ 2 =
    omega (arith, c.in-len2.len_at_least, c.in-len2.len_below) in
    two_short c.args.text.now c.two_digits.result two c.two_digits.ensures.value

pub returns-in-len3-clause-value : goal.returns-in-len3-clause-value
returns-in-len3-clause-value c =
    let three : length c.args.text.now ≡ 3 =
    omega (arith, c.in-len3.len_at_least, c.in-len3.len_below) in
    three_short c.args.text.now c.three_digits.result three c.three_digits.ensures.value

pub returns-in_default-clause-value : goal.returns-in_default-clause-value
returns-in_default-clause-value c = none_empty c.args.text.now c.in_default.len_below

pub returns-in_default-2-clause-value : goal.returns-in_default-2-clause-value
returns-in_default-2-clause-value c =
    none_long c.args.text.now c.in_default.len_at_least
