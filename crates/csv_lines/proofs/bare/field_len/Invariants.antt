-- What was passed goes on: the count of all is what was passed and the count of what is left.
use Rattle.std.proofs.Common.{◌≡◌, ◌+◌, drop}
use Rattle.std.specs.List.{prefix_len}
use Rattle.csv_lines.specs.Fields.{goes_on}
use Rattle.csv_lines.proofs.bare.field_len.Given as goal

abbrev pub invariant-loop-index : goal.invariant-loop-index
invariant-loop-index l =
    prefix_len goes_on l.text ≡ l.index + prefix_len goes_on (drop l.index l.text)
