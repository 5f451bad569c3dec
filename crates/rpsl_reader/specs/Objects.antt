-- The objects of a dump (RFC 2622, section 2), and the notes on what is passed over.
use Rattle.std.specs.Prelude.{ℕ, not, nat_lt, if◌then◌else◌, List, [], ◌∷◌, map, filter, flat_map}
use Rattle.std.specs.Prelude.{length, sum_by}
use Rattle.std.specs.List.{slice_split}
use Rattle.geo_addr.specs.Lines.{numbered_lines}
use Rattle.geo_terms.specs.declared.note.Rule.TheVariants.{P01, P02}
use Rattle.rpsl_reader.specs.declared.item.Item.{Item}
use Rattle.rpsl_reader.specs.declared.item.Item.TheVariants.{Whole, Passed}
use Rattle.rpsl_reader.specs.declared.limits.TheConstants.{LONGEST}
use Rattle.rpsl_reader.specs.Attributes.{Numbered, attribute, attributes, is_attribute, is_comment}
use Rattle.rpsl_reader.specs.Attributes.{is_end, is_stray}

-- the most bytes of an object's lines, line ends not counted
abbrev pub longest : ℕ
longest = LONGEST

-- the bytes of some lines
abbrev pub size : List Numbered → ℕ
size ls = sum_by (λ l. length l.1) ls

-- the note on a line that is neither an attribute nor a continuation
abbrev pub stray : Numbered → Item
stray l = Passed l.0 P02

-- the notes on such lines
abbrev pub strays : List Numbered → List Item
strays ls = map stray (filter (λ l. is_stray l.1) ls)

-- the object and the notes that lines say: all before the first
-- attribute is passed over with a note
unfoldable pub items : List Numbered → List Item
items [] = []
items (l ∷ ls) =
    if is_attribute l.1
    then Whole (record { line = l.0; parts = attribute l ls ∷ attributes ls }) ∷ strays ls
    else stray l ∷ items ls

-- the note on lines that are too long together: on the first of them
abbrev pub too_long : List Numbered → List Item
too_long [] = []
too_long (l ∷ ls) = Passed l.0 P01 ∷ []

-- what the lines between two ends say
unfoldable pub group_items : List Numbered → List Item
group_items ls = if nat_lt longest (size ls) then too_long ls else items ls

-- the groups of lines between the lines that end an object; comments are in none
abbrev pub groups : List Numbered → List (List Numbered)
groups ls = slice_split (λ l. is_end l.1) (filter (λ l. not (is_comment l.1)) ls)

-- the objects of a text and the notes on what is passed over, in order of their first lines
unfoldable pub objects : List ℕ → List Item
objects text = flat_map group_items (groups (numbered_lines text))
