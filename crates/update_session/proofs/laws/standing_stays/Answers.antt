use Rattle.update_session.proofs.StandingLemmas.{standing_stays}
use Rattle.update_session.proofs.laws.standing_stays.Goals as goal

pub returns : goal.returns
returns c = standing_stays c.order_does_not_matter.ensures
