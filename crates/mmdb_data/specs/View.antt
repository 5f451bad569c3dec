-- The tree that a `Value` stands for, and what `Left` says may still be spent.
use Rattle.std.specs.Prelude.{ℕ, List, [], ◌∷◌, map as map_list}
use Rattle.mmdb_data.specs.ValueTree.{ValueTree, Members, Items, map, list, text, bytes, u16, u32}
use Rattle.mmdb_data.specs.ValueTree.{i32, u64}
use Rattle.mmdb_data.specs.ValueTree.{u128, bool, double, float, no_members, member, no_items, item}
use Rattle.mmdb_data.specs.declared.value.Value.{Value, fold-Value}
use Rattle.mmdb_data.specs.declared.value.Value.TheOpen.{Value-F}
use Rattle.mmdb_data.specs.declared.budget.Left.{Left}
use Rattle.mmdb_data.specs.Reading.{Budget, left_of}

abbrev pub items_of : List ValueTree → Items
items_of [] = no_items
items_of (value ∷ values) = item value (items_of values)

abbrev pub members_of : List (List ℕ × ValueTree) → Members
members_of [] = no_members
members_of (pair ∷ pairs) = member pair.0 pair.1 (members_of pairs)

-- one level, with each value inside already seen as its tree
abbrev pub view_step : Value-F ValueTree → ValueTree
view_step (Value-F.Map pairs) = map (members_of pairs.items)
view_step (Value-F.List values) = list (items_of values.items)
view_step (Value-F.Text content) = text content
view_step (Value-F.Bytes content) = bytes content
view_step (Value-F.U16 n) = u16 n
view_step (Value-F.U32 n) = u32 n
view_step (Value-F.I32 n) = i32 n
view_step (Value-F.U64 n) = u64 n
view_step (Value-F.U128 n) = u128 n
view_step (Value-F.Bool b) = bool b
view_step (Value-F.Raw8 content) = double content
view_step (Value-F.Raw4 content) = float content

abbrev pub value_tree : Value → ValueTree
value_tree = fold-Value ValueTree view_step

abbrev pub items_view : List Value → Items
items_view values = items_of (map_list value_tree values)

abbrev pub pair_view : List ℕ × Value → List ℕ × ValueTree
pair_view pair = (pair.0, value_tree pair.1)

abbrev pub members_view : List (List ℕ × Value) → Members
members_view pairs = members_of (map_list pair_view pairs)

abbrev pub budget : Left → Budget
budget left = left_of left.values left.bytes
