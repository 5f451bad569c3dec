use Rattle.std.proofs.Common.{◌≡◌, ◌++◌, List, length}
use Rattle.geo_addr.specs.Ranges.{Ends}
use Rattle.source_changes.specs.Passing.{LieIn}
use Rattle.source_changes.proofs.ground_list.GroundsLeft.pass_over.Given as goal

-- what is left follows the grounds that were passed over
abbrev pub invariant-loop-chunk : goal.invariant-loop-chunk
invariant-loop-chunk l =
    (passed : List Ends) × ((l.fn.self ≡ passed ++ l.self) × LieIn l.fn.chunk l.fn.held passed)

abbrev pub decreases-loop-chunk : goal.decreases-loop-chunk
decreases-loop-chunk l = length l.self
