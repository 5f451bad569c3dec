use Rattle.least_nodes.proofs.Positions.{Least-holds}
use Rattle.least_nodes.proofs.laws.fewest_nodes.Goals as goal

pub returns : goal.returns
returns g c = Least-holds
