-- What a line of a file of overrides says by itself.
use Rattle.std.specs.Prelude.{ℕ, List, Result, Ok, Err, codes, if◌then◌else◌}
use Rattle.geo_addr.specs.Ranges.{Ends}
use Rattle.geo_addr.specs.Spans.{span_in}
use Rattle.geo_addr.specs.declared.fault.BlockFault.{BlockFault}
use Rattle.geo_terms.specs.PlaceForm.{same_text}
use Rattle.geo_terms.specs.declared.note.Rule.TheVariants.{O01, O02, O03, O04, O05, O06}
use Rattle.geo_terms.specs.declared.place.PlaceFault.{PlaceFault}
use Rattle.geo_terms.specs.declared.place.Said.{Said}
use Rattle.geo_terms.specs.declared.place.Said.TheVariants.{Nothing, At}
use Rattle.csv_lines.specs.Rests.{column, content_of, rest_of, row_of, said_in}
use Rattle.csv_lines.specs.declared.rest.Content.{Content}
use Rattle.csv_lines.specs.declared.rest.Content.TheVariants.{Blank, NotText, NoFields, Fields}
use Rattle.override_rows.specs.declared.outcome.LineOutcome.{LineOutcome}
use Rattle.override_rows.specs.declared.outcome.LineOutcome.TheVariants.{Silent, Broken, Accepted}

-- a place that is set says something
abbrev pub set_at : Ends → Said → LineOutcome
set_at range Nothing = Broken O06
set_at range (At place) = Accepted range (At place)

abbrev pub set_by : Ends → Result Said PlaceFault → LineOutcome
set_by range (Err fault) = Broken O05
set_by range (Ok said) = set_at range said

-- what is to be done with a range: `void` reads no further field, `set` reads those of a place
abbrev pub acted : Ends → List ℕ → List (List ℕ) → LineOutcome
acted range word row =
    if same_text word (codes "void") then Accepted range Nothing
    else (if same_text word (codes "set") then set_by range (said_in 2 row) else Broken O04)

abbrev pub located_at : Result Ends BlockFault → List (List ℕ) → LineOutcome
located_at (Err fault) row = Broken O03
located_at (Ok range) row = acted range (column 1 row) row

-- what fields say: prefix or span, `set` or `void`, country, region, city and postal code
abbrev pub row_outcome : List (List ℕ) → LineOutcome
row_outcome row = located_at (span_in (column 0 row)) row

abbrev pub outcome_by : Content → List (List ℕ) → LineOutcome
outcome_by Blank row = Silent
outcome_by NotText row = Broken O01
outcome_by NoFields row = Broken O02
outcome_by Fields row = row_outcome row

-- what a line says
unfoldable pub outcome : List ℕ → LineOutcome
outcome line = outcome_by (content_of (rest_of line)) (row_of (rest_of line))
