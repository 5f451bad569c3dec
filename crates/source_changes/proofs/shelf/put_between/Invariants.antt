use Rattle.std.proofs.Common.{◌-◌, drop, take}
use Rattle.source_changes.specs.Placing.{all_placed}
use Rattle.source_changes.proofs.PlacingLemmas.{IsPuttingBetween}
use Rattle.source_changes.proofs.shelf.put_between.Given as goal

abbrev pub invariant-loop-count : goal.invariant-loop-count
invariant-loop-count g l =
    IsPuttingBetween g.T.Named.name l.count l.end
    (all_placed g.T.Named.name (drop l.fn.count l.fn.shelf.items)
    (take l.fn.count l.fn.shelf.items))
    l.shelf.items

abbrev pub decreases-loop-count : goal.decreases-loop-count
decreases-loop-count g l = l.end - l.count
