-- The JSON value that is made of a value of the data section.
use Rattle.std.specs.Prelude.{decimal}
use Rattle.hex.specs.Hex.{encode_lower}
use Rattle.serde_json.specs.Data.{Data, boolean, number, string, array, object, unsigned, put}
use Rattle.serde_json.specs.Data.{Items as DataItems, no_items as no_data_items, item as data_item}
use Rattle.serde_json.specs.Data.{Members as DataMembers, no_members as no_data_members}
use Rattle.serde_json.specs.Find.{of_integer}
use Rattle.mmdb_data.specs.ValueTree.{ValueTree, Members, Items, map, list, text, bytes, u16, u32}
use Rattle.mmdb_data.specs.ValueTree.{i32, u64}
use Rattle.mmdb_data.specs.ValueTree.{u128, bool, double, float, no_members, member, no_items, item}

abbrev mutual
  pub data_of : ValueTree → Data
  data_of (map members) = object (members_put members no_data_members)
  data_of (list items) = array (items_data items)
  data_of (text content) = string content
  data_of (bytes content) = string (encode_lower content)
  data_of (u16 n) = number (unsigned n)
  data_of (u32 n) = number (unsigned n)
  data_of (i32 n) = number (of_integer n)
  data_of (u64 n) = number (unsigned n)
  data_of (u128 n) = string (decimal n)
  data_of (bool b) = boolean b
  data_of (double content) = string (encode_lower content)
  data_of (float content) = string (encode_lower content)

  -- an object after these members were put into it one by one
  pub members_put : Members → DataMembers → DataMembers
  members_put no_members found = found
  members_put (member key value members) found = members_put members (put key (data_of value) found)

  pub items_data : Items → DataItems
  items_data no_items = no_data_items
  items_data (item value items) = data_item (data_of value) (items_data items)
