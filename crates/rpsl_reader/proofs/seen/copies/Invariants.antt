use Rattle.std.proofs.Common.{◌≡◌, ◌++◌, length}
use Rattle.rpsl_reader.proofs.seen.copies.Given as goal

abbrev pub invariant-loop-left : goal.invariant-loop-left
invariant-loop-left l = l.copies.items ++ l.left ≡ l.parts

abbrev pub decreases-loop-left : goal.decreases-loop-left
decreases-loop-left l = length l.left
