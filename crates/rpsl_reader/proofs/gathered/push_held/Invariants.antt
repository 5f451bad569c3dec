use Rattle.std.proofs.Common.{◌≡◌, ◌++◌, length}
use Rattle.rpsl_reader.proofs.gathered.push_held.Given as goal

abbrev pub invariant-loop-left : goal.invariant-loop-left
invariant-loop-left l = l.lines.items ++ l.left ≡ l.initial.lines.items ++ l.held

abbrev pub decreases-loop-left : goal.decreases-loop-left
decreases-loop-left l = length l.left
