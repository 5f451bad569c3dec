-- What was written, and what the bytes that are left make, is all.
use Rattle.std.proofs.Common.{◌≡◌, ◌++◌, drop}
use Rattle.csv_lines.specs.Fields.{doubled}
use Rattle.published.proofs.fields.push_doubled.Given as goal

abbrev pub invariant-loop-byte : goal.invariant-loop-byte
invariant-loop-byte l =
    l.text.items ++ doubled (drop l.byte-index l.value) ≡ l.initial.text.items ++ doubled l.value
