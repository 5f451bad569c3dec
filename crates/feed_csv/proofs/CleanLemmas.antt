-- What the entries of a file say has clean texts.
use Rattle.std.proofs.Common.{◌≡◌, ℕ, Bool, true, false, cond, List, Some, refl, subst}
use Rattle.std.specs.Prelude.{Result, Ok, Err}
use Rattle.geo_addr.specs.Lines.{numbered_lines}
use Rattle.geo_addr.specs.Prefixes.{block_in}
use Rattle.geo_addr.specs.Ranges.{Prefix}
use Rattle.geo_addr.specs.declared.fault.BlockFault.{BlockFault}
use Rattle.geo_terms.specs.PlaceForm.{is_empty}
use Rattle.geo_terms.specs.declared.note.Rule.TheVariants.{F03}
use Rattle.geo_terms.specs.declared.place.PlaceFault.{PlaceFault}
use Rattle.geo_terms.specs.declared.place.Said.{Said}
use Rattle.geo_terms.specs.declared.statement.Entry.{Entry}
use Rattle.csv_lines.specs.Clean.{AreTexts, IsCleanSaid}
use Rattle.csv_lines.specs.Repeats.{fate, is_kept_by}
use Rattle.csv_lines.specs.Rests.{column, content_of, rest_of, row_of, said_in}
use Rattle.csv_lines.specs.declared.rest.Content.{Content}
use Rattle.csv_lines.specs.declared.rest.Content.TheVariants.{Blank, NotText, NoFields, Fields}
use Rattle.csv_lines.proofs.CleanLemmas.{places_are_clean}
use Rattle.csv_lines.proofs.OrderLemmas.{all_members, kept_from, member_filter}
use Rattle.csv_lines.proofs.TextLemmas.{fields_are_texts}
use Rattle.feed_csv.specs.File.{AreClean, accepted, entries, entry_by, entry_line, entry_of}
use Rattle.feed_csv.specs.File.{entry_range, entry_said}
use Rattle.feed_csv.specs.Outcomes.{accepted_at, located_at, outcome, outcome_by}
use Rattle.feed_csv.specs.declared.outcome.LineOutcome.TheVariants.{Broken}

accepted_clean : (at : Prefix) (r : Result Said PlaceFault) (n : ℕ) (e : Entry)
    → ((said : Said) → r ≡ Ok said → IsCleanSaid said) → entry_by n (accepted_at at r) ≡ Some e
    → IsCleanSaid e.said
accepted_clean at (Err fault) n e k h = absurd cc
accepted_clean at (Ok said) n e k h =
    let is : record { line = n; block = at; said = said } ≡ e = cc in
    subst (λ (x : Entry). IsCleanSaid x.said) is (k said refl)

located_clean : (b : Result Prefix BlockFault) (row : List (List ℕ)) (n : ℕ) (e : Entry)
    → AreTexts row → entry_by n (located_at b row) ≡ Some e → IsCleanSaid e.said
located_clean (Err fault) row n e texts h = absurd cc
located_clean (Ok at) row n e texts h =
    accepted_clean at (said_in 1 row) n e (λ said is. places_are_clean 1 row said texts is) h

row_clean : (x : Bool) (row : List (List ℕ)) (n : ℕ) (e : Entry)
    → AreTexts row
    → entry_by n (cond x (Broken F03) (located_at (block_in (column 0 row)) row)) ≡ Some e
    → IsCleanSaid e.said
row_clean true row n e texts h = absurd cc
row_clean false row n e texts h = located_clean (block_in (column 0 row)) row n e texts h

content_clean : (c : Content) (line : List ℕ) (n : ℕ) (e : Entry)
    → content_of (rest_of line) ≡ c → entry_by n (outcome_by c (row_of (rest_of line))) ≡ Some e
    → IsCleanSaid e.said
content_clean Blank line n e is h = absurd cc
content_clean NotText line n e is h = absurd cc
content_clean NoFields line n e is h = absurd cc
content_clean Fields line n e is h =
    let row = row_of (rest_of line) in
    row_clean (is_empty (column 0 row)) row n e (fields_are_texts line is) h

entry_clean : (p : ℕ × List ℕ) (e : Entry) → entry_of p ≡ Some e → IsCleanSaid e.said
unfolding outcome
entry_clean p e h = content_clean (content_of (rest_of p.1)) p.1 p.0 e refl h

pub entries_clean : (file : List ℕ) → AreClean (entries file)
entries_clean file = all_members (λ e. IsCleanSaid e.said) (entries file) (λ e m.
    let all = accepted file in
    let (in_all, speaks) =
    member_filter (λ x. is_kept_by (fate entry_line entry_range entry_said all x)) all e m in
    let (p, p_in, p_is) = kept_from entry_of (numbered_lines file) e in_all in
    entry_clean p e p_is)
