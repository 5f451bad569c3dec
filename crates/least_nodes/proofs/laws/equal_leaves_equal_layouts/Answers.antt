use Rattle.least_nodes.proofs.CompactLemmas.{OneTree-holds}
use Rattle.least_nodes.proofs.laws.equal_leaves_equal_layouts.Goals as goal

pub returns : goal.returns
returns c = OneTree-holds
