-- The entries of any feed are clean.
use Rattle.std.proofs.Common.{◌≡◌, ℕ, Bool, true, false, List, refl}
use Rattle.std.specs.List.{AllByRecursion as Each}
use Rattle.std.specs.Prelude.{Result, Ok, Err}
use Rattle.geo_addr.specs.Lines.{numbered_lines}
use Rattle.geo_addr.specs.Prefixes.{block_in}
use Rattle.geo_addr.specs.Ranges.{Prefix}
use Rattle.geo_addr.specs.declared.fault.BlockFault.{BlockFault}
use Rattle.geo_terms.specs.PlaceForm.{is_empty}
use Rattle.geo_terms.specs.declared.place.PlaceFault.{PlaceFault}
use Rattle.geo_terms.specs.declared.place.Said.{Said}
use Rattle.geo_terms.specs.declared.statement.Entry.{Entry}
use Rattle.csv_lines.specs.Clean.{AreTexts, IsCleanSaid}
use Rattle.csv_lines.specs.Repeats.{fate, is_kept_by}
use Rattle.csv_lines.specs.Rests.{column, content_of, rest_of, row_of, said_in}
use Rattle.csv_lines.specs.declared.rest.Content.{Content}
use Rattle.csv_lines.specs.declared.rest.Content.TheVariants.{Blank, NotText, NoFields, Fields}
use Rattle.csv_lines.proofs.CleanLemmas.{places_are_clean}
use Rattle.csv_lines.proofs.TextLemmas.{fields_are_texts}
use Rattle.feed_csv.specs.File.{accepted, entries, entry_by, entry_line, entry_of, entry_range}
use Rattle.feed_csv.specs.File.{entry_said}
use Rattle.feed_csv.specs.Outcomes.{accepted_at, located_at, outcome, outcome_by, row_outcome}
use Rattle.published.proofs.EachLemmas.{IfAny, each_filter, each_kept}

abbrev IsCleanEntry : Entry → Type 0
IsCleanEntry e = IsCleanSaid e.said

placed : (n : ℕ) (at : Prefix) (r : Result Said PlaceFault)
    → ((said : Said) → r ≡ Ok said → IsCleanSaid said)
    → IfAny IsCleanEntry (entry_by n (accepted_at at r))
placed n at (Err fault) clean = tt
placed n at (Ok said) clean = clean said refl

located : (n : ℕ) (r : Result Prefix BlockFault) (row : List (List ℕ)) → AreTexts row
    → IfAny IsCleanEntry (entry_by n (located_at r row))
located n (Err fault) row texts = tt
located n (Ok at) row texts =
    placed n at (said_in 1 row) (λ said is. places_are_clean 1 row said texts is)

of_row : (n : ℕ) (row : List (List ℕ)) → AreTexts row
    → IfAny IsCleanEntry (entry_by n (row_outcome row))
of_row n row texts = by (is_empty (column 0 row)) refl
  where
    by : (b : Bool) → is_empty (column 0 row) ≡ b
        → IfAny IsCleanEntry (entry_by n (row_outcome row))
    by true is = rw is tt
    by false is = rw is (located n (block_in (column 0 row)) row texts)

of_content : (n : ℕ) (c : Content) (line : List ℕ) → content_of (rest_of line) ≡ c
    → IfAny IsCleanEntry (entry_by n (outcome_by c (row_of (rest_of line))))
of_content n Blank line is = tt
of_content n NotText line is = tt
of_content n NoFields line is = tt
of_content n Fields line is = of_row n (row_of (rest_of line)) (fields_are_texts line is)

of_line : (line : ℕ × List ℕ) → IfAny IsCleanEntry (entry_of line)
unfolding outcome
of_line line = of_content line.0 (content_of (rest_of line.1)) line.1 refl

pub feed_is_clean : (file : List ℕ) → Each IsCleanEntry (entries file)
feed_is_clean file =
    each_filter IsCleanEntry
    (λ e. is_kept_by (fate entry_line entry_range entry_said (accepted file) e)) (accepted file)
    (each_kept IsCleanEntry entry_of of_line (numbered_lines file))
