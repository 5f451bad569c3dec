-- The places so far.
use Rattle.std.proofs.Common.{◌≡◌, take}
use Rattle.csv_lines.specs.Doubled.{is_shared, places_from}
use Rattle.csv_lines.proofs.fate.places_in.Given as goal

abbrev pub invariant-loop-at : goal.invariant-loop-at
invariant-loop-at g l = l.places.items
    ≡ places_from (λ x. is_shared l.counts (g.T.Accepted.range x)) 0 (take l.at l.rows)
