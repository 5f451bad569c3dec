-- The lines at the places so far have their fates.
use Rattle.std.proofs.Common.{◌≡◌, Bool, filter, map, take}
use Rattle.geo_addr.specs.Ranges.{Ends}
use Rattle.csv_lines.specs.Doubled.{places_from}
use Rattle.csv_lines.specs.Repeats.{fate}
use Rattle.csv_lines.proofs.fate.fates.Given as goal

abbrev pub invariant-loop-at : goal.invariant-loop-at
invariant-loop-at g l = (q : Ends → Bool)
    → l.places ≡ places_from (λ x. q (g.T.Accepted.range x)) 0 l.rows → l.fates.items
    ≡ map (fate g.T.Accepted.line g.T.Accepted.range g.T.Accepted.said l.rows)
    (take l.at (filter (λ x. q (g.T.Accepted.range x)) l.rows))
