-- A data section that holds values one after another, where a part that stands in full already is a
-- pointer if that is shorter.
use Rattle.std.specs.Prelude.{◌≡◌, ℕ, ◌+◌, ◌-◌, ◌/◌, ◌^◌, nat_lt, nat_eq, ◌&&◌, if◌then◌else◌, List}
use Rattle.std.specs.Prelude.{[], ◌∷◌, ◌++◌, length, Option, Some, None, is_some}
use Rattle.std.specs.Cmp.Lexicographic.{pointwise}
use Rattle.std.specs.Int.{bytes_high_first}
use Rattle.std.specs.Map.{lookup}
use Rattle.mmdb_data.specs.ValueTree.{ValueTree, Members, Items, map, list, no_members, member}
use Rattle.mmdb_data.specs.ValueTree.{no_items}
use Rattle.mmdb_data.specs.ValueTree.{item, members_len, items_len}
use Rattle.mmdb_data.specs.Spelling.{head, sized, spelling}

-- the pointer to an offset below 2^32, in the fewest bytes
unfoldable pub pointer : ℕ → List ℕ
pointer to =
    if nat_lt to 2048 then (32 + to / 2 ^ 8) ∷ bytes_high_first 1 to
    else if nat_lt to 526336 then (40 + (to - 2048) / 2 ^ 16) ∷ bytes_high_first 2 (to - 2048)
    else if nat_lt to 134744064 then
    (48 + (to - 526336) / 2 ^ 24) ∷ bytes_high_first 3 (to - 526336)
    else 56 ∷ bytes_high_first 4 to

-- what was written: the bytes, and of each value that stands in full its spelling and its first
-- offset, in the order in which they ended
pub record Packed : Type 0 where
  pub bytes : List ℕ
  pub full : List (List ℕ × ℕ)

abbrev pub nothing_packed : Packed
nothing_packed = record { bytes = []; full = [] }

-- where the value of this spelling stands in full
abbrev pub offset_of : List ℕ → Packed → Option ℕ
offset_of spelled section = lookup (pointwise nat_eq spelled) section.full

abbrev pub with_bytes : List ℕ → Packed → Packed
with_bytes more section = record { bytes = section.bytes ++ more; full = section.full }

-- only the first of equal values is noted
abbrev pub noted : List ℕ → ℕ → Packed → Packed
noted spelled at section =
    if is_some (offset_of spelled section) then section
    else record { bytes = section.bytes; full = section.full ++ (spelled, at) ∷ [] }

-- a value in full, by what appends its head and its content; it is noted once it has ended
abbrev pub full_by : List ℕ → (Packed → Packed) → Packed → Packed
full_by spelled content section = noted spelled (length section.bytes) (content section)

-- the pointer to the offset, if it is in reach and shorter than the spelling
abbrev pub shorter_pointer : List ℕ → Option ℕ → Option (List ℕ)
shorter_pointer spelled None = None
shorter_pointer spelled (Some to) =
    if nat_lt to (2 ^ 32) && nat_lt (length (pointer to)) (length spelled) then Some (pointer to)
    else None

abbrev pub pointed_or : Option (List ℕ) → (Packed → Packed) → Packed → Packed
pointed_or (Some to) in_full section = with_bytes to section
pointed_or None in_full section = in_full section

-- a key, or a part of a value
abbrev pub part_by : List ℕ → (Packed → Packed) → Packed → Packed
part_by spelled content section =
    pointed_or (shorter_pointer spelled (offset_of spelled section))
    (full_by spelled content) section

abbrev pub key_part : List ℕ → Packed → Packed
key_part key = part_by (sized 2 key) (with_bytes (sized 2 key))

-- the head and the content of a value, in which each part is on its own a pointer or in full
abbrev mutual
  pub content_in : ValueTree → Packed → Packed
  content_in (map members) section =
      members_in members (with_bytes (head 7 (members_len members)) section)
  content_in (list items) section = items_in items (with_bytes (head 11 (items_len items)) section)
  content_in value section = with_bytes (spelling value) section

  pub members_in : Members → Packed → Packed
  members_in no_members section = section
  members_in (member key value members) section =
      members_in members (part_by (spelling value) (content_in value) (key_part key section))

  pub items_in : Items → Packed → Packed
  items_in no_items section = section
  items_in (item value items) section =
      items_in items (part_by (spelling value) (content_in value) section)

abbrev pub in_full : ValueTree → Packed → Packed
in_full value section = full_by (spelling value) (content_in value) section

abbrev pub all_in_full : List ValueTree → Packed → Packed
all_in_full [] section = section
all_in_full (value ∷ values) section = all_in_full values (in_full value section)

-- the data section of the values, and where each of them begins
abbrev pub packed : List ValueTree → List ℕ
packed values = (all_in_full values nothing_packed).bytes

abbrev pub offsets_in : List ValueTree → Packed → List ℕ
offsets_in [] section = []
offsets_in (value ∷ values) section =
    length section.bytes ∷ offsets_in values (in_full value section)

abbrev pub packed_offsets : List ValueTree → List ℕ
packed_offsets values = offsets_in values nothing_packed

-- one list begins with the other
abbrev pub Begins : {A : Type 0} → List A → List A → Type 0
Begins {A} front whole = (rest : List A) × (whole ≡ front ++ rest)

-- all that was written and noted is there still, where it was
pub record IsKept (old new : Packed) : Type 0 where
  pub bytes : Begins old.bytes new.bytes
  pub full : Begins old.full new.full
