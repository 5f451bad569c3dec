-- The map holds what the lines at the places so far show.
use Rattle.std.proofs.Common.{◌≡◌, Bool, filter, take}
use Rattle.geo_addr.specs.Ranges.{Ends}
use Rattle.std.specs.BTreeMap.{get}
use Rattle.csv_lines.specs.Doubled.{ends_cmp, places_from, shown}
use Rattle.csv_lines.proofs.fate.seen_in.Given as goal

abbrev pub invariant-loop-at : goal.invariant-loop-at
invariant-loop-at g l = (p : g.row.T.Denot → Bool) → l.places ≡ places_from p 0 l.rows → (k : Ends)
    → get ends_cmp l.seen k ≡ shown g.T.Accepted.line g.T.Accepted.range g.T.Accepted.said
    (take l.at (filter p l.rows)) k
