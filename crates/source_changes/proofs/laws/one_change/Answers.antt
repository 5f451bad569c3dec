use Rattle.source_changes.proofs.Law.{one_change}
use Rattle.source_changes.proofs.laws.one_change.Goals as goal

pub returns : goal.returns
returns c = one_change
