use Rattle.least_nodes.proofs.LaidLemmas.{LaidOut-holds}
use Rattle.least_nodes.proofs.laws.layout_answers_as_tree.Goals as goal

pub returns : goal.returns
returns g c = LaidOut-holds
