use Rattle.least_nodes.proofs.RenameLemmas.{RenamedLayout-holds}
use Rattle.least_nodes.proofs.laws.renamed_leaves_same_layout.Goals as goal

pub returns : goal.returns
returns g c = RenamedLayout-holds _ _
