use Rattle.split_core.proofs.LeastList.{blocks_least_at}
use Rattle.split_core.proofs.split.blocks.Goals as goal

pub returns-clause-least : goal.returns-clause-least
returns-clause-least c =
    blocks_least_at c.args.range _ c.of.result c.range.invariant c.range.view_is c.of.ensures
