use Rattle.least_nodes.proofs.CompactLemmas.{CompactLength-holds}
use Rattle.least_nodes.proofs.laws.compact_store_is_as_long_as_layout.Goals as goal

pub returns : goal.returns
returns c = CompactLength-holds
