use Rattle.std.proofs.Common.{◌≤◌}
use Rattle.first_index.specs.Links.{IsOuter}
use Rattle.first_index.proofs.inetnums.links.outer_of.Given as goal

abbrev pub invariant-loop-before : goal.invariant-loop-before
invariant-loop-before l = record
    { within : l.left ≤ l.index; outer : IsOuter l.refs l.reference l.index l.left }

abbrev pub decreases-loop-before : goal.decreases-loop-before
decreases-loop-before l = l.left
