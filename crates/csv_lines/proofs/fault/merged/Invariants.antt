-- What is there and what the faults that are left make is all.
use Rattle.std.proofs.Common.{◌≡◌, ◌++◌, drop}
use Rattle.csv_lines.specs.Repeats.{merged}
use Rattle.csv_lines.proofs.fault.merged.Given as goal

abbrev pub invariant-loop-fault : goal.invariant-loop-fault
invariant-loop-fault l =
    l.all.items ++ merged (drop l.fault-index l.late) l.left ≡ merged l.late l.early
