use Rattle.least_nodes.proofs.Positions.{Apart-holds}
use Rattle.least_nodes.proofs.laws.distinct_subtrees_distinct_nodes.Goals as goal

pub returns : goal.returns
returns g c = Apart-holds
