use Rattle.geo_addr.proofs.FrontLemmas.{one_digit, three_digits, two_digits}
use Rattle.geo_addr.proofs.front.front_octet.Goals as goal

pub returns-in_default : goal.returns-in_default
returns-in_default c = one_digit _ _ _ c.in_ok-one.ensures

pub returns-in_default-front_digit : goal.returns-in_default-front_digit
returns-in_default-front_digit c =
    two_digits _ _ _ _ _ c.in_ok-one.ensures c.in-Some.ensures c.if-one-eq0.false

pub returns-then-three-le255 : goal.returns-then-three-le255
returns-then-three-le255 c =
    three_digits _ _ _ _ _ _ _ c.in_ok-one.ensures c.in-Some.ensures
    c.in-Some-front_digit.ensures c.if-one-eq0.false c.if-three-le255.true
