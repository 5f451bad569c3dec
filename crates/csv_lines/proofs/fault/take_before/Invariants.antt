-- What was taken and what is still to be taken is all; what stays behind does not change.
use Rattle.std.proofs.Common.{◌≡◌, ◌++◌, drop, length}
use Rattle.std.specs.Prelude.{take_while}
use Rattle.std.specs.List.{prefix_len}
use Rattle.csv_lines.specs.Repeats.{is_before}
use Rattle.csv_lines.proofs.fault.take_before.Given as goal

abbrev pub invariant-loop-left : goal.invariant-loop-left
invariant-loop-left l =
    (l.all.items ++ take_while (is_before l.line) l.left
    ≡ l.initial.all.items ++ take_while (is_before l.line) l.faults)
    × (drop (prefix_len (is_before l.line) l.left) l.left
    ≡ drop (prefix_len (is_before l.line) l.faults) l.faults)

abbrev pub decreases-loop-left : goal.decreases-loop-left
decreases-loop-left l = length l.left
