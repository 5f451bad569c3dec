use Rattle.update_session.proofs.StandingLemmas.{back_as_marked}
use Rattle.update_session.proofs.laws.back_as_marked.Goals as goal

pub returns : goal.returns
returns c = back_as_marked
