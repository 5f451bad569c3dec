-- The fewest lines of a tree whose leaves are places, and the feed of these lines.
use Rattle.std.specs.Prelude.{◌≡◌, ℕ, ◌≤◌, List, [], ◌∷◌, length, slice_index_or, Option, None}
use Rattle.std.specs.List.{IsDistinct, position_or_len}
use Rattle.geo_addr.specs.Ranges.{Prefix}
use Rattle.geo_terms.specs.Numbers.{place_at, same_place}
use Rattle.geo_terms.specs.PlaceForm.{PlaceParts}
use Rattle.geo_terms.specs.SourceForm.{FeedParts}
use Rattle.trie_core.specs.Tree.{Tree, AllLeaves, map_tree}
use Rattle.least_nodes.specs.Layout.{each_once, leaves}
use Rattle.mmdb_file.specs.FileImage.{same_answer}
use Rattle.publish_least.specs.Choice.{lines_of, part_of}
use Rattle.publish_least.specs.declared.line.Line.{Line}
use Rattle.published.specs.FeedText.{feed_text}
use Rattle.published.specs.Reread.{AreClean, IsCleanAt, says}

-- the different answers of a tree in order of first visit, behind that of no place
abbrev pub answers : Tree (Option PlaceParts) → List (Option PlaceParts)
answers t = each_once same_answer (None ∷ []) (leaves t)

-- the number of an answer among these: 0 is no place
abbrev pub number_in : List (Option PlaceParts) → Option PlaceParts → ℕ
number_in order x = position_or_len (same_answer x) order

-- the answer of a number
abbrev pub numbered : List (Option PlaceParts) → ℕ → Option PlaceParts
numbered order k = slice_index_or order k None

-- the fewest lines of a tree of places under a block, whose leaves are the numbers of its answers
unfoldable pub published_lines : Tree (Option PlaceParts) → Prefix → List Line
published_lines t within = lines_of (part_of (map_tree (number_in (answers t)) t) within) within

-- the feed of these lines
unfoldable pub published : Tree (Option PlaceParts) → Prefix → List ℕ
published t within = feed_text (numbered (answers t)) (published_lines t within)

-- what these lines say, as a feed under a URL
unfoldable pub published_feed : (url : List ℕ) → Tree (Option PlaceParts) → Prefix → FeedParts
published_feed url t within = says url (numbered (answers t)) (published_lines t within)

-- lines whose leaves stand for places are those of a tree of places under a block: in text, in
-- number and in what they say
pub record IsPublished (place_of : ℕ → Option PlaceParts) (lines : List Line)
    (t : Tree (Option PlaceParts)) (within : Prefix) : Type 0 where
  pub text : feed_text place_of lines ≡ published t within
  pub count : length lines ≡ length (published_lines t within)
  pub said : (url : List ℕ) → says url place_of lines ≡ published_feed url t within
  pub clean : AllLeaves IsCleanAt t → AreClean place_of lines

-- whatever numbers the places have, the lines of a tree of numbers are those of the tree of places
abbrev pub NumbersDoNotMatter : Type 0
NumbersDoNotMatter = (places : List PlaceParts) → IsDistinct same_place places
    → (t : Tree ℕ) → AllLeaves (λ k. k ≤ length places) t → (within : Prefix)
    → IsPublished (place_at places) (lines_of (part_of t within) within)
    (map_tree (place_at places) t) within
