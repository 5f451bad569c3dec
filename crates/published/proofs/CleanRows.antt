-- The rows of any file of overrides are clean.
use Rattle.std.proofs.Common.{◌≡◌, ℕ, Bool, true, false, List, refl}
use Rattle.std.specs.List.{AllByRecursion as Each}
use Rattle.std.specs.Prelude.{Result, Ok, Err, codes}
use Rattle.geo_addr.specs.Lines.{numbered_lines}
use Rattle.geo_addr.specs.Ranges.{Ends}
use Rattle.geo_addr.specs.Spans.{span_in}
use Rattle.geo_addr.specs.declared.fault.BlockFault.{BlockFault}
use Rattle.geo_terms.specs.PlaceForm.{same_text}
use Rattle.geo_terms.specs.declared.place.PlaceFault.{PlaceFault}
use Rattle.geo_terms.specs.declared.place.Said.{Said}
use Rattle.geo_terms.specs.declared.place.Said.TheVariants.{Nothing, At}
use Rattle.geo_terms.specs.declared.statement.Override.{Override}
use Rattle.csv_lines.specs.Clean.{AreTexts, IsCleanSaid}
use Rattle.csv_lines.specs.Repeats.{fate, is_kept_by}
use Rattle.csv_lines.specs.Rests.{column, content_of, rest_of, row_of, said_in}
use Rattle.csv_lines.specs.declared.rest.Content.{Content}
use Rattle.csv_lines.specs.declared.rest.Content.TheVariants.{Blank, NotText, NoFields, Fields}
use Rattle.csv_lines.proofs.CleanLemmas.{places_are_clean}
use Rattle.csv_lines.proofs.TextLemmas.{fields_are_texts}
use Rattle.override_rows.specs.File.{accepted, row_by, row_line, row_of_line, row_range, row_said}
use Rattle.override_rows.specs.File.{rows}
use Rattle.override_rows.specs.Outcomes.{acted, located_at, outcome, outcome_by, set_at, set_by}
use Rattle.published.proofs.EachLemmas.{IfAny, each_filter, each_kept}

abbrev IsCleanRow : Override → Type 0
IsCleanRow r = IsCleanSaid r.said

set : (n : ℕ) (range : Ends) (said : Said) → IsCleanSaid said
    → IfAny IsCleanRow (row_by n (set_at range said))
set n range Nothing clean = tt
set n range (At place) clean = clean

placed : (n : ℕ) (range : Ends) (r : Result Said PlaceFault)
    → ((said : Said) → r ≡ Ok said → IsCleanSaid said)
    → IfAny IsCleanRow (row_by n (set_by range r))
placed n range (Err fault) clean = tt
placed n range (Ok said) clean = set n range said (clean said refl)

-- `void`, or `set`, or another word
by_word : (n : ℕ) (range : Ends) (word : List ℕ) (row : List (List ℕ)) → AreTexts row
    → IfAny IsCleanRow (row_by n (acted range word row))
by_word n range word row texts =
    by (same_text word (codes "void")) (same_text word (codes "set")) refl refl
  where
    by : (void set : Bool) → same_text word (codes "void") ≡ void
        → same_text word (codes "set") ≡ set → IfAny IsCleanRow (row_by n (acted range word row))
    by true other is isnt = rw is tt
    by false true is also =
        rw (is, also) (placed n range (said_in 2 row)
        (λ said says. places_are_clean 2 row said texts says))
    by false false is isnt = rw (is, isnt) tt

located : (n : ℕ) (r : Result Ends BlockFault) (row : List (List ℕ)) → AreTexts row
    → IfAny IsCleanRow (row_by n (located_at r row))
located n (Err fault) row texts = tt
located n (Ok range) row texts = by_word n range (column 1 row) row texts

of_content : (n : ℕ) (c : Content) (line : List ℕ) → content_of (rest_of line) ≡ c
    → IfAny IsCleanRow (row_by n (outcome_by c (row_of (rest_of line))))
of_content n Blank line is = tt
of_content n NotText line is = tt
of_content n NoFields line is = tt
of_content n Fields line is =
    let row = row_of (rest_of line) in
    located n (span_in (column 0 row)) row (fields_are_texts line is)

of_line : (line : ℕ × List ℕ) → IfAny IsCleanRow (row_of_line line)
unfolding outcome
of_line line = of_content line.0 (content_of (rest_of line.1)) line.1 refl

pub overrides_are_clean : (file : List ℕ) → Each IsCleanRow (rows file)
overrides_are_clean file =
    each_filter IsCleanRow
    (λ r. is_kept_by (fate row_line row_range row_said (accepted file) r)) (accepted file)
    (each_kept IsCleanRow row_of_line of_line (numbered_lines file))
