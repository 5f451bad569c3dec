use Rattle.std.proofs.Common.{◌≡◌, ◌++◌, length}
use Rattle.rpsl_reader.specs.Objects.{items}
use Rattle.rpsl_reader.specs.Selections.{wanted}
use Rattle.rpsl_reader.proofs.object.push_items.Given as goal

abbrev pub invariant-loop-left : goal.invariant-loop-left
invariant-loop-left l =
    l.found.items ++ wanted l.selection (items l.left)
    ≡ l.initial.found.items ++ wanted l.selection (items l.lines)

abbrev pub decreases-loop-left : goal.decreases-loop-left
decreases-loop-left l = length l.left
