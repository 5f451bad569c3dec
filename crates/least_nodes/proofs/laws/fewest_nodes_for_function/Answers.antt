use Rattle.least_nodes.proofs.Positions.{LeastFor-holds}
use Rattle.least_nodes.proofs.laws.fewest_nodes_for_function.Goals as goal

pub returns : goal.returns
returns g c = LeastFor-holds
