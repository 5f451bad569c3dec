-- What is left is the start of the text, and what was passed has no line feed.
use Rattle.std.proofs.Common.{◌≡◌, drop, length, take}
use Rattle.line_parts.specs.Parts.{feeds}
use Rattle.line_parts.proofs.whole.split_behind_last.Given as goal

abbrev pub invariant-loop-left : goal.invariant-loop-left
invariant-loop-left l =
    (l.left ≡ take (length l.left) l.text) × (feeds (drop (length l.left) l.text) ≡ 0)

abbrev pub decreases-loop-left : goal.decreases-loop-left
decreases-loop-left l = length l.left
