-- What is left of a line without its comment, and how `csv` reads it (RFC 8805 section 2,
-- RFC 4180 section 2).
use Rattle.std.specs.Prelude.{◌≡◌, ℕ, ◌+◌, ◌≤◌, Result, true, not, is_some, List, [], ◌∷◌, ◌++◌}
use Rattle.std.specs.Prelude.{length, flat_map, Option, None, Some, unwrap_or, get_or}
use Rattle.std.specs.Prelude.{if◌then◌else◌}
use Rattle.std.specs.Str.{is_utf8}
use Rattle.std.specs.List.{list_all}
use Rattle.geo_addr.specs.Lines.{pieces, trimmed}
use Rattle.geo_terms.specs.PlaceForm.{is_empty}
use Rattle.csv.specs.Machine.{next_record}
use Rattle.csv.specs.Reading.{Ready, default_config, reader_config, reader_state, reader_trim}
use Rattle.csv.specs.Reading.{source_of}
use Rattle.csv.specs.declared.parser.State.TheVariants as st
use Rattle.csv.specs.declared.reader.Reader.{Reader}
use Rattle.csv.specs.declared.reader.Trim.TheVariants as trim
use Rattle.geo_terms.specs.SaidOf.{said_of}
use Rattle.geo_terms.specs.declared.place.PlaceFault.{PlaceFault}
use Rattle.geo_terms.specs.declared.place.Said.{Said}
use Rattle.csv_lines.specs.Fields.{is_bare, is_unquoted, values_of}
use Rattle.csv_lines.specs.declared.bare.TheConstants.{MOST_FIELDS}
use Rattle.csv_lines.specs.declared.rest.Content.{Content}
use Rattle.csv_lines.specs.declared.rest.Content.TheVariants.{Blank, NotText, NoFields, Fields}

abbrev pub first_piece : List (List ℕ) → List ℕ
first_piece [] = []
first_piece (piece ∷ more) = piece

-- a line up to its first `#`, which also counts between quotes,
-- without the blanks around what is left
abbrev pub rest_of : List ℕ → List ℕ
rest_of line = trimmed (first_piece (pieces 35 line))

-- what a rest has: nothing, no UTF-8, no fields, or fields
abbrev pub content_of : List ℕ → Content
content_of rest =
    if is_empty rest then Blank
    else (if not (is_utf8 rest) then NotText
    else (if is_some (values_of rest) then Fields else NoFields))

-- the fields of a rest, with their quotes taken off
abbrev pub row_of : List ℕ → List (List ℕ)
row_of rest = unwrap_or (values_of rest) []

-- a line of at most eight fields that has neither quotes nor a comment
pub record IsBareLine (line : List ℕ) : Type 0 where
  pub content : content_of (rest_of line) ≡ Fields
  pub bare : list_all is_bare (trimmed line) ≡ true
  pub few : length (row_of (rest_of line)) ≤ MOST_FIELDS

-- a field without the blanks around it; missing fields are empty
abbrev pub column : ℕ → List (List ℕ) → List ℕ
column i row = trimmed (get_or row i [])

-- what of a text with fields is handed to `csv`: one with a quote, as a line of its own
abbrev pub handed_text : List ℕ → List ℕ
handed_text text = if is_unquoted text then [] else text ++ (10 ∷ [])

-- what of a rest is handed to `csv`, by what it has
abbrev pub handed_by : Content → List ℕ → List ℕ
handed_by Blank rest = []
handed_by NotText rest = []
handed_by NoFields rest = []
handed_by Fields rest = handed_text rest

unfoldable pub handed : List ℕ → List ℕ
handed line = handed_by (content_of (rest_of line)) (rest_of line)

-- what of numbered lines is handed to `csv`
abbrev pub all_handed : List (ℕ × List ℕ) → List ℕ
all_handed lines = flat_map (λ l. handed l.1) lines

-- a `csv` reader with its defaults at the start of a record,
-- of which what it has left reads as these bytes
pub record Stands {R : Type 0} (source : R → Option (List ℕ)) (reader : Reader R)
    (left : List ℕ) : Type 0 where
  pub ready : Ready reader
  pub trim : reader_trim reader ≡ trim.None
  pub config : reader_config reader ≡ default_config
  pub state : reader_state reader ≡ st.StartRecord
  pub bytes : List ℕ
  pub held : source_of source reader ≡ Some bytes
  pub reads : next_record default_config st.StartRecord [] [] bytes
      ≡ next_record default_config st.StartRecord [] [] left

-- a reader that is there stands before these bytes, and without one none are left
abbrev pub StandsIf : {R : Type 0} → (R → Option (List ℕ)) → Option (Reader R) → List ℕ → Type 0
StandsIf source None left = left ≡ []
StandsIf source (Some reader) left = Stands source reader left

-- a reader stands where the rest of a line, and of those after it, was handed over
abbrev pub CanRead : {R : Type 0} → (R → Option (List ℕ)) → Option (Reader R) → List ℕ → Type 0
CanRead source reader line = (left : List ℕ) × StandsIf source reader (handed line ++ left)

-- what four fields from an index on say of a location: country, region, city and postal code
abbrev pub said_in : ℕ → List (List ℕ) → Result Said PlaceFault
said_in index row =
    said_of (column index row) (column (index + 1) row) (column (index + 2) row)
    (column (index + 3) row)
