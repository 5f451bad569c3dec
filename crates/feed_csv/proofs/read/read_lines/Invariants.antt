-- What was found and what the lines that are left give is what the whole part gives;
-- the reader stands before the next of them.
use Rattle.std.proofs.Common.{◌≡◌, ◌≤◌, ◌++◌, length, filter_map, Some}
use Rattle.csv_lines.specs.Rests.{StandsIf, all_handed}
use Rattle.feed_csv.specs.File.{entry_of, fault_of}
use Rattle.feed_csv.specs.Parts.{accepted_in, refused_in}
use Rattle.feed_csv.proofs.read.read_lines.Given as goal

abbrev pub invariant-loop-line : goal.invariant-loop-line
invariant-loop-line l = record {
  can_next : (goal.iterator-loop-line).can_next l.line-iterator;
  is_finite : (goal.iterator-loop-line).is_finite l.line-iterator;
  entries : l.found.entries.items ++ filter_map entry_of l.line-iterator ≡ accepted_in l.part;
  faults : l.found.faults.items ++ filter_map fault_of l.line-iterator ≡ refused_in l.part;
  few : length l.found.entries.items ≤ l.limit;
  stands : StandsIf (λ s. Some s.now) l.reader (all_handed l.line-iterator);
}
