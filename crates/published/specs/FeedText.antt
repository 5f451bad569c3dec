-- The text of a feed (RFC 8805 section 2.1) that says what lines of blocks and places say.
-- A byte is its number: 10 is the line feed, 44 the comma.
use Rattle.std.specs.Prelude.{ℕ, if◌then◌else◌, List, [], ◌∷◌, ◌++◌, flat_map, map, codes, decimal}
use Rattle.std.specs.Prelude.{Option, None, Some}
use Rattle.std.specs.List.{list_all}
use Rattle.geo_addr.specs.Printing.{block_text}
use Rattle.geo_addr.specs.Ranges.{Prefix}
use Rattle.geo_terms.specs.PlaceForm.{PlaceParts}
use Rattle.csv_lines.specs.Fields.{Field, Plain, Quoted, is_plain, joined, written}
use Rattle.publish_least.specs.declared.line.Line.{Line}

-- a value as a field: quoted where it has a comma or a quote in it
abbrev pub field_of : List ℕ → Field
field_of value = if list_all is_plain value then Plain value else Quoted value

-- the four values of a place; where there is none they are empty
abbrev pub place_values : Option PlaceParts → List (List ℕ)
place_values None = [] ∷ [] ∷ [] ∷ [] ∷ []
place_values (Some p) = p.country ∷ p.region ∷ p.city ∷ p.postal ∷ []

-- a line: the block and the values of its place as fields, with commas between them
abbrev pub line_text : Prefix → Option PlaceParts → List ℕ
line_text block place = joined (Plain (block_text block) ∷ map field_of (place_values place))

-- what stands of a place behind the block: a comma before each field
abbrev pub place_text : Option PlaceParts → List ℕ
place_text place = flat_map (λ f. 44 ∷ written f) (map field_of (place_values place))

-- the feed of lines whose leaves stand for places: a line each, and a line feed
abbrev pub feed_text : (ℕ → Option PlaceParts) → List Line → List ℕ
feed_text place_of lines = flat_map (λ x. line_text x.block (place_of x.leaf) ++ (10 ∷ [])) lines

-- the line that is printed for a feed of so many lines
unfoldable pub printed_line : (file : List ℕ) (lines : ℕ) → List ℕ
printed_line file lines =
    codes "publish " ++ (file ++ (codes " lines " ++ (decimal lines ++ (10 ∷ []))))
