use Rattle.source_changes.proofs.Stays.{sources_stay}
use Rattle.source_changes.proofs.laws.sources_stay.Goals as goal

pub returns : goal.returns
returns c = sources_stay
