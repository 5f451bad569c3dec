use Rattle.std.proofs.Common.{◌≡◌, ◌++◌, length}
use Rattle.rpsl_reader.proofs.seen.parts_of.Given as goal

abbrev pub invariant-loop-left : goal.invariant-loop-left
invariant-loop-left l = l.parts.items ++ l.left ≡ l.attributes

abbrev pub decreases-loop-left : goal.decreases-loop-left
decreases-loop-left l = length l.left
