-- What the members that borrow their texts stand for.
use Rattle.std.specs.Prelude.{◌≤◌, ℕ, length, List, [], ◌∷◌, ◌++◌, map as map_list}
use Rattle.mmdb_data.specs.ValueTree.{ValueTree, Members, map, list, text, no_members, member}
use Rattle.mmdb_data.specs.ValueTree.{no_items, item, most}
use Rattle.mmdb_data.specs.Spelling.{head, sized}
use Rattle.mmdb_data.specs.Packing.{Packed, with_bytes, key_part}
use Rattle.mmdb_data.specs.View.{members_of}
use Rattle.mmdb_data.specs.declared.member.Around.{Around}
use Rattle.mmdb_data.specs.declared.member.Around.TheVariants.{Map, List as InList}
use Rattle.mmdb_data.specs.declared.member.Member.{Member}

-- a value alone in a map or a list
abbrev pub wrapped : Around → ValueTree → ValueTree
wrapped (Map key) value = map (member key.now value no_members)
wrapped InList value = list (item value no_items)

-- a text with all that stands around it, the outermost first
abbrev pub nested : List Around → List ℕ → ValueTree
nested [] content = text content
nested (outer ∷ around) content = wrapped outer (nested around content)

-- what stands before the value
abbrev pub around_head : Around → List ℕ
around_head (Map key) = head 7 1 ++ sized 2 key.now
around_head InList = head 11 1

-- what is packed before the value
abbrev pub around_in : Around → Packed → Packed
around_in (Map key) section = key_part key.now (with_bytes (head 7 1) section)
around_in InList section = with_bytes (head 11 1) section

-- the size of the key, if there is one, can be told
abbrev pub HasNarrowKey : Around → Type 0
HasNarrowKey (Map key) = length key.now ≤ most
HasNarrowKey InList = Unit {0}

-- the value of a member
abbrev pub member_value : Member → ValueTree
member_value m = nested m.around.now m.text.now

-- a member as a pair, and members as those of a map
abbrev pub member_pair : Member → List ℕ × ValueTree
member_pair m = (m.key.now, member_value m)

abbrev pub member_list : List Member → Members
member_list members = members_of (map_list member_pair members)
