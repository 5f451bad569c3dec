-- What a feed that was written of lines reads as.
use Rattle.std.specs.Prelude.{◌≡◌, ◌≢◌, ℕ, List, [], length, map, All, AllPairs, IsUtf8, Ok, Option}
use Rattle.std.specs.Prelude.{None, Some}
use Rattle.std.specs.List.{enumerate_from}
use Rattle.geo_addr.specs.Prefixes.{block_in}
use Rattle.geo_addr.specs.Printing.{block_text}
use Rattle.geo_addr.specs.Ranges.{IsBlock, Prefix}
use Rattle.geo_terms.specs.PlaceForm.{PlaceParts, IsPlace}
use Rattle.geo_terms.specs.SourceForm.{FeedParts}
use Rattle.geo_terms.specs.declared.place.Said.{Said}
use Rattle.geo_terms.specs.declared.place.Said.TheVariants.{Nothing, At}
use Rattle.geo_terms.specs.declared.statement.Entry.{Entry}
use Rattle.csv_lines.specs.Clean.{IsCleanPlace}
use Rattle.feed_csv.specs.File.{accepted, feed}
use Rattle.publish_least.specs.declared.line.Line.{Line}
use Rattle.published.specs.FeedText.{feed_text}

-- what a line says: its place, or nothing where it has none
abbrev pub said_by : Option PlaceParts → Said
said_by None = Nothing
said_by (Some p) = At p

-- the entry of a line, by its number
abbrev pub entry_of : (ℕ → Option PlaceParts) → (ℕ × Line) → Entry
entry_of place_of numbered = record {
  line = numbered.0;
  block = numbered.1.block;
  said = said_by (place_of numbered.1.leaf);
}

-- the feed that says what lines say: an entry a line, in their order, numbered from 1, and no note
abbrev pub says : (url : List ℕ) → (ℕ → Option PlaceParts) → List Line → FeedParts
says url place_of lines = record {
  url = url;
  entries = map (entry_of place_of) (enumerate_from 1 lines);
  notes = [];
}

-- blocks are aligned, and none stands in two lines
pub record AreApart (lines : List Line) : Type 0 where
  pub aligned : All (λ x. IsBlock x.block) lines
  pub distinct : AllPairs (λ x y. x.block ≢ y.block) lines

-- a place that a feed can say: none of its texts has a `#`, a line end or a blank at an end
abbrev pub IsCleanAt : Option PlaceParts → Type 0
IsCleanAt None = Unit {0}
IsCleanAt (Some p) = IsCleanPlace p

abbrev pub AreClean : (ℕ → Option PlaceParts) → List Line → Type 0
AreClean place_of lines = All (λ x. IsCleanAt (place_of x.leaf)) lines

-- a place as the type `Place` keeps it, with texts of UTF-8
pub record IsTextPlace (p : PlaceParts) : Type 0 where
  pub place : IsPlace p
  pub country : IsUtf8 p.country
  pub region : IsUtf8 p.region
  pub city : IsUtf8 p.city
  pub postal : IsUtf8 p.postal

abbrev pub IsTextAt : Option PlaceParts → Type 0
IsTextAt None = Unit {0}
IsTextAt (Some p) = IsTextPlace p

-- a block that its text spells, as `geo_addr::block_text` promises of each, and a place in form
pub record IsLineInForm (block : Prefix) (place : Option PlaceParts) : Type 0 where
  pub spelt : block_in (block_text block) ≡ Ok block
  pub texts : IsTextAt place

abbrev pub AreInForm : (ℕ → Option PlaceParts) → List Line → Type 0
AreInForm place_of lines = All (λ x. IsLineInForm x.block (place_of x.leaf)) lines

-- a feed that was written of lines says what they say; each line is accepted, so that they count
-- for the limits of a feed
abbrev pub FeedsReadBack : Type 0
FeedsReadBack = (url : List ℕ) (place_of : ℕ → Option PlaceParts) (lines : List Line)
    → AreInForm place_of lines → AreApart lines → AreClean place_of lines
    → (feed url (feed_text place_of lines) ≡ says url place_of lines)
    × (length (accepted (feed_text place_of lines)) ≡ length lines)
