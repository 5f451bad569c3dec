-- The items of a text as they stand in it: rows of items, whose attributes stand in one list.
use Rattle.std.specs.Prelude.{ℕ, ◌+◌, ◌≤◌, List, [], ◌∷◌, All, length, map, take, drop}
use Rattle.std.specs.Prelude.{Option, None, Some}
use Rattle.geo_terms.specs.declared.note.Rule.{Rule}
use Rattle.rpsl_reader.specs.declared.item.Attribute.{Attribute}
use Rattle.rpsl_reader.specs.declared.item.Item.{Item}
use Rattle.rpsl_reader.specs.declared.item.Item.TheVariants.{Whole, Passed}
use Rattle.rpsl_reader.specs.declared.seen.SightRow.{SightRow}

-- what stands in a text, unless something was joined
abbrev pub said_in : (there joined : List ℕ) → List ℕ
said_in there [] = there
said_in there (b ∷ bs) = b ∷ bs

-- an object, or a note where there is a rule
abbrev pub item_of : ℕ → List Attribute → Option Rule → Item
item_of line parts None = Whole (record { line = line; parts = parts })
item_of line parts (Some rule) = Passed line rule

-- the item of a row
abbrev pub row_item : List Attribute → SightRow → Item
row_item parts row = item_of row.line (take row.count (drop row.from parts)) row.rule

abbrev pub items_in : List SightRow → List Attribute → List Item
items_in rows parts = map (row_item parts) rows

-- rows whose attributes are all in the list
abbrev pub HasRows : List SightRow → List Attribute → Type 0
HasRows rows parts = All (λ row. row.from + row.count ≤ length parts) rows

-- the items, and the attributes of the object that is being read
pub record Sightings : Type 0 where
  pub items : List Item
  pub begun : List Attribute
