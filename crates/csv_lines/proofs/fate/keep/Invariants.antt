-- Of the lines so far those that are kept stand in front.
use Rattle.std.proofs.Common.{◌≡◌, ◌≤◌, All, Bool, false, filter, map, length}
use Rattle.std.proofs.lemmas.List.Filters.{FiltersInPlace}
use Rattle.csv_lines.specs.Doubled.{places_from}
use Rattle.csv_lines.specs.Repeats.{is_kept_by}
use Rattle.csv_lines.specs.declared.fate.Fate.{Fate}
use Rattle.csv_lines.specs.declared.fate.Fate.TheVariants.{Kept}
use Rattle.csv_lines.proofs.PlaceLemmas.{Cursor}
use Rattle.csv_lines.proofs.fate.keep.Given as goal

abbrev pub invariant-loop-at : goal.invariant-loop-at
invariant-loop-at g l =
    (l.count ≤ l.at)
    × (length l.rows.items ≡ length l.initial.rows.items)
    × ((f : g.row.T.Denot → Fate) (p : g.row.T.Denot → Bool)
    → l.places ≡ places_from p 0 l.initial.rows.items
    → l.fates ≡ map f (filter p l.initial.rows.items)
    → All (λ x. p x ≡ false → f x ≡ Kept) l.initial.rows.items
    → FiltersInPlace (λ x. is_kept_by (f x)) l.initial.rows.items l.rows.items l.count l.at
    × Cursor p f l.initial.rows.items l.places l.fates l.next l.at)
