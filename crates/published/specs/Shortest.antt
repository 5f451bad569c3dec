-- The shortest feed that says of a block what the sources say.
use Rattle.std.specs.Prelude.{◌≡◌, ℕ, ◌≤◌, List, length, Option, None}
use Rattle.geo_addr.specs.Ranges.{Prefix, IsBlock, IsWithin, range_of_block}
use Rattle.geo_terms.specs.PlaceForm.{PlaceParts}
use Rattle.geo_terms.specs.Precedence.{record_at}
use Rattle.geo_terms.specs.Sources.{InForce}
use Rattle.feed_csv.specs.File.{feed}
use Rattle.mmdb_file.specs.FileImage.{record_tree}
use Rattle.publish_least.specs.Lines.{AreInside, IsPlain, answer}
use Rattle.publish_least.specs.declared.line.Line.{Line}
use Rattle.published.specs.FeedText.{feed_text}
use Rattle.published.specs.PlaceLines.{answers, numbered, published_lines}
use Rattle.published.specs.Reread.{says}

-- of each address of a block the longest line says what is wanted
abbrev pub SayAs : (ℕ → Option PlaceParts) → Prefix → (ℕ → Option PlaceParts) → List Line → Type 0
SayAs wanted within place_of lines =
    (a : ℕ) → IsWithin (range_of_block within) a → place_of (answer lines a) ≡ wanted a

-- so these lines inside the block do, where an address outside of all lines has no place, and no
-- list of lines inside the block, of whatever places, that does so is shorter
pub record AreShortest (wanted : ℕ → Option PlaceParts) (within : Prefix)
    (place_of : ℕ → Option PlaceParts) (lines : List Line) : Type 0 where
  pub none : place_of 0 ≡ None
  pub inside : AreInside within lines
  pub say : SayAs wanted within place_of lines
  pub fewest : (other : ℕ → Option PlaceParts) (others : List Line) → other 0 ≡ None
      → AreInside within others → SayAs wanted within other others → length lines ≤ length others

-- what is published of sources is shortest
abbrev pub PublishedIsShortest : Type 0
PublishedIsShortest = (s : InForce) (within : Prefix) → IsBlock within → IsPlain within
    → AreShortest (record_at s) within
    (numbered (answers (record_tree s))) (published_lines (record_tree s) within)

-- bytes are the text of the fewest lines that say of a block what sources say, and whoever reads
-- them as a feed, under any URL, gets these lines back, one entry a line, and no note
pub record IsShortestFeed (s : InForce) (within : Prefix) (bytes : List ℕ) : Type 0 where
  pub place_of : ℕ → Option PlaceParts
  pub lines : List Line
  pub shortest : AreShortest (record_at s) within place_of lines
  pub text : bytes ≡ feed_text place_of lines
  pub reads_back : (url : List ℕ) → feed url bytes ≡ says url place_of lines
