-- What was found and what the lines that are left give is what the whole file gives;
-- the reader stands before the next of them.
use Rattle.std.proofs.Common.{◌≡◌, ◌≤◌, ◌++◌, length, filter_map, Some}
use Rattle.csv_lines.specs.Rests.{StandsIf, all_handed}
use Rattle.override_rows.specs.File.{accepted, fault_of, most, refused, row_of_line}
use Rattle.override_rows.proofs.read.read_lines.Given as goal

abbrev pub invariant-loop-line : goal.invariant-loop-line
invariant-loop-line l = record {
  can_next : (goal.iterator-loop-line).can_next l.line-iterator;
  is_finite : (goal.iterator-loop-line).is_finite l.line-iterator;
  rows : l.found.rows.items ++ filter_map row_of_line l.line-iterator ≡ accepted l.bytes;
  faults : l.found.faults.items ++ filter_map fault_of l.line-iterator ≡ refused l.bytes;
  few : length l.found.rows.items ≤ most;
  stands : StandsIf (λ s. Some s.now) l.reader (all_handed l.line-iterator);
}
