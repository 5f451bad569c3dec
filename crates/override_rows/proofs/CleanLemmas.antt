-- What the rows of a file say has clean texts.
use Rattle.std.proofs.Common.{◌≡◌, ℕ, Bool, true, false, cond, List, Some, refl, subst}
use Rattle.std.specs.Prelude.{Result, Ok, Err, codes}
use Rattle.geo_addr.specs.Lines.{numbered_lines}
use Rattle.geo_addr.specs.Ranges.{Ends}
use Rattle.geo_addr.specs.Spans.{span_in}
use Rattle.geo_addr.specs.declared.fault.BlockFault.{BlockFault}
use Rattle.geo_terms.specs.PlaceForm.{same_text}
use Rattle.geo_terms.specs.declared.note.Rule.TheVariants.{O04}
use Rattle.geo_terms.specs.declared.place.PlaceFault.{PlaceFault}
use Rattle.geo_terms.specs.declared.place.Said.{Said}
use Rattle.geo_terms.specs.declared.place.Said.TheVariants.{Nothing, At}
use Rattle.geo_terms.specs.declared.statement.Override.{Override}
use Rattle.csv_lines.specs.Clean.{AreTexts, IsCleanSaid}
use Rattle.csv_lines.specs.Repeats.{fate, is_kept_by}
use Rattle.csv_lines.specs.Rests.{column, content_of, rest_of, row_of, said_in}
use Rattle.csv_lines.specs.declared.rest.Content.{Content}
use Rattle.csv_lines.specs.declared.rest.Content.TheVariants.{Blank, NotText, NoFields, Fields}
use Rattle.csv_lines.proofs.CleanLemmas.{places_are_clean}
use Rattle.csv_lines.proofs.OrderLemmas.{all_members, kept_from, member_filter}
use Rattle.csv_lines.proofs.TextLemmas.{fields_are_texts}
use Rattle.override_rows.specs.File.{AreClean, accepted, row_by, row_line, row_of_line, row_range}
use Rattle.override_rows.specs.File.{row_said, rows}
use Rattle.override_rows.specs.Outcomes.{located_at, set_at, set_by, outcome, outcome_by}
use Rattle.override_rows.specs.declared.outcome.LineOutcome.TheVariants.{Accepted, Broken}

set_clean : (range : Ends) (said : Said) (n : ℕ) (e : Override) → IsCleanSaid said
    → row_by n (set_at range said) ≡ Some e → IsCleanSaid e.said
set_clean range Nothing n e k h = absurd cc
set_clean range (At place) n e k h =
    let is : record { line = n; range = range; said = At place } ≡ e = cc in
    subst (λ (x : Override). IsCleanSaid x.said) is k

read_clean : (range : Ends) (r : Result Said PlaceFault) (n : ℕ) (e : Override)
    → ((said : Said) → r ≡ Ok said → IsCleanSaid said) → row_by n (set_by range r) ≡ Some e
    → IsCleanSaid e.said
read_clean range (Err fault) n e k h = absurd cc
read_clean range (Ok said) n e k h = set_clean range said n e (k said refl) h

-- `void`, or `set`, or another word
word_clean : (void set : Bool) (range : Ends) (row : List (List ℕ)) (n : ℕ) (e : Override)
    → AreTexts row
    → row_by n (cond void (Accepted range Nothing)
    (cond set (set_by range (said_in 2 row)) (Broken O04))) ≡ Some e → IsCleanSaid e.said
word_clean true set range row n e texts h =
    let is : record { line = n; range = range; said = Nothing } ≡ e = cc in
    subst (λ (x : Override). IsCleanSaid x.said) is tt
word_clean false true range row n e texts h =
    read_clean range (said_in 2 row) n e (λ said is. places_are_clean 2 row said texts is) h
word_clean false false range row n e texts h = absurd cc

located_clean : (r : Result Ends BlockFault) (row : List (List ℕ)) (n : ℕ) (e : Override)
    → AreTexts row → row_by n (located_at r row) ≡ Some e → IsCleanSaid e.said
located_clean (Err fault) row n e texts h = absurd cc
located_clean (Ok range) row n e texts h =
    word_clean (same_text (column 1 row) (codes "void"))
    (same_text (column 1 row) (codes "set")) range row n e texts h

content_clean : (c : Content) (line : List ℕ) (n : ℕ) (e : Override)
    → content_of (rest_of line) ≡ c → row_by n (outcome_by c (row_of (rest_of line))) ≡ Some e
    → IsCleanSaid e.said
content_clean Blank line n e is h = absurd cc
content_clean NotText line n e is h = absurd cc
content_clean NoFields line n e is h = absurd cc
content_clean Fields line n e is h =
    let row = row_of (rest_of line) in
    located_clean (span_in (column 0 row)) row n e (fields_are_texts line is) h

row_clean : (p : ℕ × List ℕ) (e : Override) → row_of_line p ≡ Some e → IsCleanSaid e.said
unfolding outcome
row_clean p e h = content_clean (content_of (rest_of p.1)) p.1 p.0 e refl h

pub rows_clean : (file : List ℕ) → AreClean (rows file)
rows_clean file = all_members (λ e. IsCleanSaid e.said) (rows file) (λ e m.
    let all = accepted file in
    let (in_all, speaks) =
    member_filter (λ x. is_kept_by (fate row_line row_range row_said all x)) all e m in
    let (p, p_in, p_is) = kept_from row_of_line (numbered_lines file) e in_all in
    row_clean p e p_is)
