use Rattle.least_nodes.proofs.TogetherLemmas.{RenamedNodes-holds}
use Rattle.least_nodes.proofs.laws.renamed_leaves_as_many_nodes.Goals as goal

pub returns : goal.returns
returns g c = RenamedNodes-holds _ _
