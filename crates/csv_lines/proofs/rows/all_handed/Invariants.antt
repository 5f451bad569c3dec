-- What was handed over and what the lines that are left hand over is all.
use Rattle.std.proofs.Common.{◌≡◌, ◌∷◌, ◌++◌}
use Rattle.geo_addr.specs.Lines.{numbered_lines}
use Rattle.csv_lines.specs.Rests.{all_handed}
use Rattle.csv_lines.proofs.rows.all_handed.Given as goal

abbrev pub invariant-loop-line : goal.invariant-loop-line
invariant-loop-line l =
    (goal.iterator-loop-line).can_next l.line-iterator
    × (goal.iterator-loop-line).is_finite l.line-iterator
    × (l.handed.items ++ all_handed l.line-iterator ≡ 10 ∷ all_handed (numbered_lines l.file))
