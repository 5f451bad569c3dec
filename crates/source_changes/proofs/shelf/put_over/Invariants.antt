use Rattle.std.proofs.Common.{◌-◌}
use Rattle.source_changes.proofs.PlacingLemmas.{IsPuttingOver}
use Rattle.source_changes.proofs.shelf.put_over.Given as goal

abbrev pub invariant-loop-at : goal.invariant-loop-at
invariant-loop-at g l =
    IsPuttingOver g.T.Named.name l.count l.at l.fn.shelf.items l.shelf.items

abbrev pub decreases-loop-at : goal.decreases-loop-at
decreases-loop-at g l = l.at - l.count
