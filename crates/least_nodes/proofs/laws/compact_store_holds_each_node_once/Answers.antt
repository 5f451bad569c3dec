use Rattle.least_nodes.proofs.CompactLemmas.{CompactCount-holds}
use Rattle.least_nodes.proofs.laws.compact_store_holds_each_node_once.Goals as goal

pub returns : goal.returns
returns c = CompactCount-holds
