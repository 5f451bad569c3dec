-- The JSON text of a value (RFC 8259), without blanks.
use Rattle.std.specs.Prelude.{ℕ, ◌/◌, ◌%◌, ◌==◌, nat_lt, if◌then◌else◌, Bool, true, false, List, []}
use Rattle.std.specs.Prelude.{◌∷◌, ◌++◌, flat_map, codes, decimal}
use Rattle.std.specs.Char.{digit_char}
use Rattle.std.specs.Fmt.{signed_decimal}
use Rattle.std.specs.List.{fold, join_by}
use Rattle.std.specs.Ordering.{nat_cmp}
use Rattle.std.specs.Cmp.Lexicographic.{slice_cmp}
use Rattle.std.specs.FinMap as finite
use Rattle.hex.specs.Hex.{encode_lower}
use Rattle.mmdb_data.specs.ValueTree.{ValueTree, Members, Items, map, list, text, bytes, u16, u32}
use Rattle.mmdb_data.specs.ValueTree.{i32, u64}
use Rattle.mmdb_data.specs.ValueTree.{u128, bool, double, float, no_members, member, no_items, item}

-- what stands in a string for a byte: a quotation mark, a backslash and a control
-- are escaped (RFC 8259, section 7)
unfoldable pub escaped : ℕ → List ℕ
escaped b =
    if b == 34 then codes "\\\""
    else if b == 92 then codes "\\\\"
    else if b == 8 then codes "\\b"
    else if b == 9 then codes "\\t"
    else if b == 10 then codes "\\n"
    else if b == 12 then codes "\\f"
    else if b == 13 then codes "\\r"
    else if nat_lt b 32 then codes "\\u00" ++ digit_char (b / 16) ∷ digit_char (b % 16) ∷ []
    else b ∷ []

-- a string in its quotation marks
unfoldable pub quoted : List ℕ → List ℕ
quoted content = 34 ∷ (flat_map escaped content ++ 34 ∷ [])

-- an object has one text for a key, and its keys ascend by their bytes
abbrev pub Object : Type 0
Object = finite.FinMap (slice_cmp nat_cmp) (List ℕ)

-- of two equal keys the later counts
unfoldable pub object_of : List (List ℕ × List ℕ) → Object
object_of members = fold (λ object m. finite.insert object m.0 m.1) finite.empty members

abbrev pub member_text : List ℕ × List ℕ → List ℕ
member_text m = quoted m.0 ++ 58 ∷ m.1

unfoldable pub object_text : Object → List ℕ
object_text object = 123 ∷ (join_by member_text (44 ∷ []) (finite.entries object) ++ 125 ∷ [])

unfoldable pub array_text : List (List ℕ) → List ℕ
array_text items = 91 ∷ (join_by (λ item. item) (44 ∷ []) items ++ 93 ∷ [])

abbrev pub bool_text : Bool → List ℕ
bool_text true = codes "true"
bool_text false = codes "false"

-- Numbers of up to 64 bits are numbers. A number of 128 bits is a string of its decimal digits, and
-- bytes, doubles and floats are strings of two hexadecimal digits a byte.
abbrev mutual
  pub json : ValueTree → List ℕ
  json (map members) = object_text (object_of (member_texts members))
  json (list items) = array_text (item_texts items)
  json (text content) = quoted content
  json (bytes content) = quoted (encode_lower content)
  json (u16 n) = decimal n
  json (u32 n) = decimal n
  json (i32 n) = signed_decimal n
  json (u64 n) = decimal n
  json (u128 n) = quoted (decimal n)
  json (bool b) = bool_text b
  json (double content) = quoted (encode_lower content)
  json (float content) = quoted (encode_lower content)

  -- each key with the text of its value
  pub member_texts : Members → List (List ℕ × List ℕ)
  member_texts no_members = []
  member_texts (member key value members) = (key, json value) ∷ member_texts members

  pub item_texts : Items → List (List ℕ)
  item_texts no_items = []
  item_texts (item value items) = json value ∷ item_texts items
