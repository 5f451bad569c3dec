-- How a value is written (MaxMind DB 2.0, "Output Data Section"): the fewest size bytes, the fewest
-- bytes of a number, no pointers.
use Rattle.std.specs.Prelude.{ℕ, zero, suc, ◌+◌, ◌-◌, ◌*◌, nat_lt, if◌then◌else◌, Bool, true, false}
use Rattle.std.specs.Prelude.{List, [], ◌∷◌, ◌++◌, length}
use Rattle.std.specs.Int.{w32, bytes_high_first, cast_unsigned}
use Rattle.mmdb_data.specs.ValueTree.{ValueTree, Members, Items, map, list, text, bytes, u16, u32}
use Rattle.mmdb_data.specs.ValueTree.{i32, u64}
use Rattle.mmdb_data.specs.ValueTree.{u128, bool, double, float, no_members, member, no_items, item}
use Rattle.mmdb_data.specs.ValueTree.{members_len, items_len}

-- the low five bits of the control byte: the size, or how many size bytes follow
unfoldable pub size_code : ℕ → ℕ
size_code size = if nat_lt size 29 then size else if nat_lt size 285 then 29
    else if nat_lt size 65821 then 30 else 31

-- the size bytes, the highest first
unfoldable pub size_bytes : ℕ → List ℕ
size_bytes size =
    if nat_lt size 29 then [] else if nat_lt size 285 then bytes_high_first 1 (size - 29)
    else if nat_lt size 65821 then bytes_high_first 2 (size - 285)
    else bytes_high_first 3 (size - 65821)

-- the control byte, and for a type from 8 on the byte that tells it
unfoldable pub kind_bytes : ℕ → ℕ → List ℕ
kind_bytes kind code = if nat_lt kind 8 then (kind * 32 + code) ∷ [] else code ∷ (kind - 7) ∷ []

-- what stands before the content
unfoldable pub head : ℕ → ℕ → List ℕ
head kind size = kind_bytes kind (size_code size) ++ size_bytes size

-- content whose size is its bytes
unfoldable pub sized : ℕ → List ℕ → List ℕ
sized kind content = head kind (length content) ++ content

abbrev pub without_zeros : List ℕ → List ℕ
without_zeros [] = []
without_zeros (zero ∷ content) = without_zeros content
without_zeros (suc b ∷ content) = suc b ∷ content

abbrev pub spelling_of_bool : Bool → List ℕ
spelling_of_bool true = head 14 1
spelling_of_bool false = head 14 0

abbrev mutual
  pub spelling : ValueTree → List ℕ
  spelling (map members) = head 7 (members_len members) ++ members_spelling members
  spelling (list items) = head 11 (items_len items) ++ items_spelling items
  spelling (text content) = sized 2 content
  spelling (bytes content) = sized 4 content
  spelling (u16 n) = sized 5 (without_zeros (bytes_high_first 2 n))
  spelling (u32 n) = sized 6 (without_zeros (bytes_high_first 4 n))
  spelling (i32 n) = sized 8 (without_zeros (bytes_high_first 4 (cast_unsigned w32 n)))
  spelling (u64 n) = sized 9 (without_zeros (bytes_high_first 8 n))
  spelling (u128 n) = sized 10 (without_zeros (bytes_high_first 16 n))
  spelling (bool b) = spelling_of_bool b
  spelling (double content) = sized 3 content
  spelling (float content) = sized 15 content

  pub members_spelling : Members → List ℕ
  members_spelling no_members = []
  members_spelling (member key value members) =
      sized 2 key ++ (spelling value ++ members_spelling members)

  pub items_spelling : Items → List ℕ
  items_spelling no_items = []
  items_spelling (item value items) = spelling value ++ items_spelling items
