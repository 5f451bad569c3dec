-- What was found and what the lines that are left give is what the whole part gives.
use Rattle.std.proofs.Common.{◌≡◌, ◌≤◌, ◌++◌, length, filter_map}
use Rattle.nro_stats.specs.File.{note_of, row_of}
use Rattle.nro_stats.specs.Parts.{notes_in, rows_in}
use Rattle.nro_stats.proofs.read.read_lines.Given as goal

abbrev pub invariant-loop-line : goal.invariant-loop-line
invariant-loop-line l =
    (goal.iterator-loop-line).can_next l.line-iterator
    × (goal.iterator-loop-line).is_finite l.line-iterator
    × (l.found.rows.items ++ filter_map (row_of l.slot) l.line-iterator ≡ rows_in l.slot l.part)
    × (l.found.notes.items ++ filter_map note_of l.line-iterator ≡ notes_in l.part)
    × (length l.found.rows.items ≤ l.limit)
