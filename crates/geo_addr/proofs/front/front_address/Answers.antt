use Rattle.geo_addr.proofs.FrontLemmas.{four_in_front}
use Rattle.geo_addr.proofs.front.front_address.Goals as goal

pub returns : goal.returns
returns c =
    four_in_front _ _ _ _ _ _ _ _ _ c.in_ok-first.ensures c.in_ok-second.ensures
    c.in_ok-third.ensures c.in_ok-fourth.ensures
