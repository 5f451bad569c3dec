-- The line feeds so far and those of what is left are all.
use Rattle.std.proofs.Common.{◌≡◌, ◌+◌, length}
use Rattle.line_parts.specs.Parts.{feeds}
use Rattle.line_parts.proofs.cut.count_feeds.Given as goal

abbrev pub invariant-loop-left : goal.invariant-loop-left
invariant-loop-left l = l.count + feeds l.left ≡ feeds l.text

abbrev pub decreases-loop-left : goal.decreases-loop-left
decreases-loop-left l = length l.left
