-- A data section is no longer than its values are spelt.
use Rattle.std.proofs.Common.{◌≡◌, ℕ, ◌+◌, ◌^◌, ◌≤◌, Bool, true, false, ◌&&◌, nat_lt, List, [], ◌∷◌}
use Rattle.std.proofs.Common.{◌++◌, length, Option, Some, None, refl, ap, arith, length-append}
use Rattle.std.proofs.lemmas.Bool.{and_parts, ltb-true}
use Rattle.std.proofs.lemmas.List.Sums.{sum_by-cons}
use Rattle.std.specs.Prelude.{if◌then◌else◌}
use Rattle.std.specs.List.{sum_by}
use Rattle.mmdb_data.specs.ValueTree.{ValueTree, Members, Items, map, list, text, bytes, u16, u32}
use Rattle.mmdb_data.specs.ValueTree.{i32, u64}
use Rattle.mmdb_data.specs.ValueTree.{u128, bool, double, float, no_members, member, no_items, item}
use Rattle.mmdb_data.specs.ValueTree.{members_len, items_len}
use Rattle.mmdb_data.specs.Spelling.{head, items_spelling, members_spelling, sized, spelling}
use Rattle.mmdb_data.specs.Packing.{Packed, all_in_full, content_in, full_by, in_full, items_in}
use Rattle.mmdb_data.specs.Packing.{key_part, members_in, nothing_packed, offset_of, packed}
use Rattle.mmdb_data.specs.Packing.{part_by, pointed_or, pointer, shorter_pointer, with_bytes}
use Rattle.mmdb_data.proofs.Packs.{noted_bytes}

-- no more than so many bytes come to a section
abbrev AddsUpTo : (Packed → Packed) → ℕ → Type 0
AddsUpTo append most = (section : Packed)
    → length (append section).bytes ≤ length section.bytes + most

adds : (more : List ℕ) → AddsUpTo (with_bytes more) (length more)
adds more section = omega (arith, length-append section.bytes more)

adds_full : (spelled : List ℕ) (content : Packed → Packed) (most : ℕ) → AddsUpTo content most
    → AddsUpTo (full_by spelled content) most
adds_full spelled content most inner section =
    let same = ap length (noted_bytes spelled (length section.bytes) (content section)) in
    omega (arith, same, inner section)

is_shorter : (spelled : List ℕ) (o : Option ℕ) (to : List ℕ) → shorter_pointer spelled o ≡ Some to
    → length to ≤ length spelled
is_shorter spelled None to is = absurd (cc)
is_shorter spelled (Some at) to is =
    by (nat_lt at (2 ^ 32) && nat_lt (length (pointer at)) (length spelled)) refl is
  where
    by : (b : Bool) → nat_lt at (2 ^ 32) && nat_lt (length (pointer at)) (length spelled) ≡ b
        → (if b then Some (pointer at) else None) ≡ Some to → length to ≤ length spelled
    by true test same =
        let here : pointer at ≡ to = cc in
        let less = ltb-true (length (pointer at)) (length spelled)
        (and_parts (nat_lt at (2 ^ 32)) (nat_lt (length (pointer at)) (length spelled))
        test).1 in
        omega (arith, less, ap length here)
    by false test same = absurd (cc)

adds_part : (spelled : List ℕ) (content : Packed → Packed) → AddsUpTo content (length spelled)
    → AddsUpTo (part_by spelled content) (length spelled)
adds_part spelled content inner section =
    by (shorter_pointer spelled (offset_of spelled section)) refl
  where
    by : (o : Option (List ℕ)) → shorter_pointer spelled (offset_of spelled section) ≡ o
        → length (pointed_or o (full_by spelled content) section).bytes ≤ length
        section.bytes + length spelled
    by None is = adds_full spelled content (length spelled) inner section
    by (Some to) is = omega
        (arith, adds to section, is_shorter spelled (offset_of spelled section) to is)

adds_key : (key : List ℕ) → AddsUpTo (key_part key) (length (sized 2 key))
adds_key key section =
    adds_part (sized 2 key) (with_bytes (sized 2 key)) (adds (sized 2 key)) section

mutual
  adds_content : (value : ValueTree) → AddsUpTo (content_in value) (length (spelling value))
  adds_content (map members) section =
      let opened = with_bytes (head 7 (members_len members)) section in
      omega (
        arith,
        adds (head 7 (members_len members)) section,
        adds_members members opened,
        length-append (head 7 (members_len members)) (members_spelling members),
      )
  adds_content (list items) section =
      let opened = with_bytes (head 11 (items_len items)) section in
      omega (
        arith,
        adds (head 11 (items_len items)) section,
        adds_items items opened,
        length-append (head 11 (items_len items)) (items_spelling items),
      )
  adds_content (text content) section = adds (spelling (text content)) section
  adds_content (bytes content) section = adds (spelling (bytes content)) section
  adds_content (u16 n) section = adds (spelling (u16 n)) section
  adds_content (u32 n) section = adds (spelling (u32 n)) section
  adds_content (i32 n) section = adds (spelling (i32 n)) section
  adds_content (u64 n) section = adds (spelling (u64 n)) section
  adds_content (u128 n) section = adds (spelling (u128 n)) section
  adds_content (bool b) section = adds (spelling (bool b)) section
  adds_content (double content) section = adds (spelling (double content)) section
  adds_content (float content) section = adds (spelling (float content)) section

  adds_members : (members : Members)
      → AddsUpTo (members_in members) (length (members_spelling members))
  adds_members no_members section = omega arith
  adds_members (member key value members) section =
      let keyed = key_part key section in
      let valued = part_by (spelling value) (content_in value) keyed in
      omega (
        arith,
        adds_key key section,
        adds_part (spelling value) (content_in value) (adds_content value) keyed,
        adds_members members valued,
        length-append (sized 2 key) (spelling value ++ members_spelling members),
        length-append (spelling value) (members_spelling members),
      )

  adds_items : (items : Items) → AddsUpTo (items_in items) (length (items_spelling items))
  adds_items no_items section = omega arith
  adds_items (item value items) section =
      let valued = part_by (spelling value) (content_in value) section in
      omega (
        arith,
        adds_part (spelling value) (content_in value) (adds_content value) section,
        adds_items items valued,
        length-append (spelling value) (items_spelling items),
      )

-- how many bytes a value takes at most
abbrev pub most_of : ValueTree → ℕ
most_of value = length (spelling value)

adds_all : (values : List ValueTree) (section : Packed)
    → length (all_in_full values section).bytes ≤ length section.bytes + sum_by most_of values
adds_all [] section = omega arith
adds_all (value ∷ values) section =
    omega (
      arith,
      adds_full (spelling value) (content_in value) (length (spelling value)) (adds_content value)
          section,
      adds_all values (in_full value section),
      sum_by-cons most_of value values,
    )

pub packed_size : (values : List ValueTree) → length (packed values) ≤ sum_by most_of values
packed_size values = let all = adds_all values nothing_packed in omega (arith, all)
