-- The lines at the places so far have their faults.
use Rattle.std.proofs.Common.{◌≡◌, Bool, filter, map, take, filter_map}
use Rattle.csv_lines.specs.Doubled.{places_from}
use Rattle.csv_lines.specs.Repeats.{fault_by}
use Rattle.csv_lines.specs.declared.fate.Fate.{Fate}
use Rattle.csv_lines.proofs.fate.repeat_faults.Given as goal

abbrev pub invariant-loop-at : goal.invariant-loop-at
invariant-loop-at g l = (f : g.row.T.Denot → Fate) (p : g.row.T.Denot → Bool)
    → l.places ≡ places_from p 0 l.rows → l.fates ≡ map f (filter p l.rows)
    → l.faults.items ≡ filter_map (λ x. fault_by l.fn.rules (g.T.Accepted.line x) (f x))
    (take l.at (filter p l.rows))
