use Rattle.mmdb_tree.proofs.NodeLemmas.{any_node}
use Rattle.mmdb_tree.proofs.laws.tree_reads_back.Goals as goal

pub returns : goal.returns
returns c = any_node c.node_reads_back.ensures
