use Rattle.std.proofs.Common.{◌≤◌}
use Rattle.first_index.specs.Links.{NoneReaches}
use Rattle.first_index.proofs.inetnums.cover.nearest.Given as goal

abbrev pub invariant-loop-index : goal.invariant-loop-index
invariant-loop-index l = record
    { within : l.left ≤ l.end; none : NoneReaches l.url l.family l.last l.refs l.left l.end }

abbrev pub decreases-loop-index : goal.decreases-loop-index
decreases-loop-index l = l.left
