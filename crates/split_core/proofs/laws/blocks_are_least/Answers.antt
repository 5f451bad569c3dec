-- The list of largest blocks is the least one.
use Rattle.split_core.proofs.LeastList.{blocks_least}
use Rattle.split_core.proofs.laws.blocks_are_least.Goals as goal

pub returns : goal.returns
returns c = blocks_least
