use Rattle.std.proofs.Common.{◌≡◌, ◌++◌, length}
use Rattle.rpsl_reader.specs.Objects.{strays}
use Rattle.rpsl_reader.proofs.object.push_strays.Given as goal

abbrev pub invariant-loop-left : goal.invariant-loop-left
invariant-loop-left l = l.found.items ++ strays l.left ≡ l.initial.found.items ++ strays l.lines

abbrev pub decreases-loop-left : goal.decreases-loop-left
decreases-loop-left l = length l.left
