-- The ranges of the lines so far are counted.
use Rattle.std.proofs.Common.{map}
use Rattle.csv_lines.proofs.CountLemmas.{AreCounted}
use Rattle.csv_lines.proofs.fate.counts_of.Given as goal

abbrev pub invariant-loop-row : goal.invariant-loop-row
invariant-loop-row g l = AreCounted (map g.T.Accepted.range l.rows) l.row-index l.counts.items
