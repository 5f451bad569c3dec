use Rattle.std.proofs.Common.{◌≡◌, ◌+◌, ◌≤◌, ◌∷◌, ◌++◌, length}
use Rattle.rpsl_reader.specs.Changes.{open_group}
use Rattle.rpsl_reader.specs.Reading.{after, given, state_of}
use Rattle.rpsl_reader.specs.Selections.{wanted}
use Rattle.rpsl_reader.proofs.read.read_lines.Given as goal

abbrev pub invariant-each : goal.invariant-each
invariant-each l = record {
  held : l.gathered.held ≡ l.initial.gathered.held;
  found :
      l.found.items
      ++ wanted l.selection (given (state_of l.lines l.line (open_group l.gathered)) (10 ∷ l.left))
      ≡ l.initial.found.items ++ wanted l.selection
      (given (state_of l.initial.lines l.first (open_group l.initial.gathered)) (10 ∷ l.rest));
  state :
      after (state_of l.lines l.line (open_group l.gathered)) (10 ∷ l.left)
      ≡ after (state_of l.initial.lines l.first (open_group l.initial.gathered)) (10 ∷ l.rest);
  counts : l.lines + length l.left ≤ l.initial.lines + length l.rest;
}

abbrev pub decreases-each : goal.decreases-each
decreases-each l = length l.left
