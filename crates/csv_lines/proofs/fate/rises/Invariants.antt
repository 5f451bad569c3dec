-- The ranges so far rise, and the last of them is at hand.
use Rattle.std.proofs.Common.{◌≡◌, ◌<◌, ◌-◌, AllPairs, get_or, take}
use Rattle.std.specs.Prelude.{MatchOption}
use Rattle.csv_lines.specs.Doubled.{IsBelow}
use Rattle.csv_lines.proofs.fate.rises.Given as goal

abbrev pub invariant-loop-row : goal.invariant-loop-row
invariant-loop-row g l =
    AllPairs (λ x y. IsBelow (g.T.Accepted.range x) (g.T.Accepted.range y))
    (take l.row-index l.rows)
    × MatchOption l.before (l.row-index ≡ 0) (λ before. (0 < l.row-index)
    × ((d : g.row.T.Denot) → g.T.Accepted.range (get_or l.rows (l.row-index - 1) d) ≡ before))
