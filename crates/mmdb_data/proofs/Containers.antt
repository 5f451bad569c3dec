-- Maps and lists whose parts stand one after the other.
use Rattle.std.proofs.Common.{◌≡◌, ℕ, ◌+◌, ◌≤◌, Bool, true, false, List, ◌++◌, length, drop, Ok}
use Rattle.std.proofs.Common.{refl, arith}
use Rattle.mmdb_data.specs.ValueTree.{ValueTree, Members, Items, map, list, text, no_members}
use Rattle.mmdb_data.specs.ValueTree.{member}
use Rattle.mmdb_data.specs.ValueTree.{no_items, item, members_len, items_len, members_depth}
use Rattle.mmdb_data.specs.ValueTree.{items_depth}
use Rattle.mmdb_data.specs.ValueTree.{count, members_count, items_count, bytes_in, members_bytes}
use Rattle.mmdb_data.specs.ValueTree.{items_bytes, most}
use Rattle.mmdb_data.specs.Spelling.{head}
use Rattle.mmdb_data.specs.Reading.{left_of, members_from, items_from, content_from, value_from}
use Rattle.mmdb_data.proofs.Values.{MayStand, StandsFull, Stands, full_from_head}

abbrev pub MembersStand : List ℕ → Members → ℕ → ℕ → Type 0
MembersStand section members at after = (levels n m b c : ℕ) → members_depth members ≤ levels
    → b ≡ members_count members + n → c ≡ members_bytes members + m
    → members_from (value_from section levels) (members_len members) at (left_of b c) ≡ Ok
    (members, after, left_of n m)

abbrev pub ItemsStand : List ℕ → Items → ℕ → ℕ → Type 0
ItemsStand section items at after = (levels n m b c : ℕ) → items_depth items ≤ levels
    → b ≡ items_count items + n → c ≡ items_bytes items + m
    → items_from (value_from section levels) (items_len items) at (left_of b c) ≡ Ok
    (items, after, left_of n m)

pub no_more : (section : List ℕ) (at : ℕ) → MembersStand section no_members at at
no_more section at levels n m b c deep few light =
    let b_is : b ≡ n = omega (arith, few) in
    let c_is : c ≡ m = omega (arith, light) in
    rw (b_is, c_is) refl

pub none_left : (section : List ℕ) (at : ℕ) → ItemsStand section no_items at at
none_left section at levels n m b c deep few light =
    let b_is : b ≡ n = omega (arith, few) in
    let c_is : c ≡ m = omega (arith, light) in
    rw (b_is, c_is) refl

pub member_stands : (section key : List ℕ) (value : ValueTree) (later : Members) (at : ℕ)
    {p q after : ℕ}
    → Stands section (text key) at p → Stands section value p q → MembersStand section later q after
    → MembersStand section (member key value later) at after
member_stands section key value later at one two others levels n m b c deep few light =
    let n2 = members_count later + n in
    let m2 = members_bytes later + m in
    let key_found = one levels true (count value + n2) (bytes_in value + m2) b c tt
    (omega (arith, deep)) (omega (arith, few)) (omega (arith, light)) in
    let value_found = two levels false n2 m2 (count value + n2) (bytes_in value + m2) tt
    (omega (arith, deep)) refl refl in
    let rest_found = others levels n m n2 m2 (omega (arith, deep)) refl refl in
    rw (key_found, value_found, rest_found) refl

pub item_stands : (section : List ℕ) (value : ValueTree) (later : Items) (at : ℕ) {p after : ℕ}
    → Stands section value at p → ItemsStand section later p after
    → ItemsStand section (item value later) at after
item_stands section value later at one others levels n m b c deep few light =
    let n2 = items_count later + n in
    let m2 = items_bytes later + m in
    let value_found = one levels false n2 m2 b c tt (omega (arith, deep)) (omega (arith, few))
    (omega (arith, light)) in
    let rest_found = others levels n m n2 m2 (omega (arith, deep)) refl refl in
    rw (value_found, rest_found) refl

map_in : (section : List ℕ) (members : Members) (at offset after levels : ℕ) (is_key : Bool)
    → MembersStand section members offset after
    → (n m b c : ℕ) → MayStand is_key (map members) → members_depth members ≤ levels
    → b ≡ members_count members + n → c ≡ members_bytes members + m
    → content_from (value_from section levels) section is_key at 7 (members_len members) offset
    (left_of b c) ≡ Ok (map members, after, left_of n m)
unfolding content_from
map_in section members at offset after levels true inner n m b c may deep few light = absurd may
map_in section members at offset after levels false inner n m b c may deep few light =
    rw (inner levels n m b c deep few light) refl

list_in : (section : List ℕ) (items : Items) (at offset after levels : ℕ) (is_key : Bool)
    → ItemsStand section items offset after
    → (n m b c : ℕ) → MayStand is_key (list items) → items_depth items ≤ levels
    → b ≡ items_count items + n → c ≡ items_bytes items + m
    → content_from (value_from section levels) section is_key at 11 (items_len items) offset
    (left_of b c) ≡ Ok (list items, after, left_of n m)
unfolding content_from
list_in section items at offset after levels true inner n m b c may deep few light = absurd may
list_in section items at offset after levels false inner n m b c may deep few light =
    rw (inner levels n m b c deep few light) refl

pub map_stands : (section : List ℕ) (members : Members) (at after : ℕ) (y : List ℕ)
    → members_len members ≤ most → drop at section ≡ head 7 (members_len members) ++ y
    → MembersStand section members (at + length (head 7 (members_len members))) after
    → StandsFull section (map members) at after
map_stands section members at after y fits here inner =
    let offset = at + length (head 7 (members_len members)) in
    full_from_head section (map members) at 7 (members_len members) after y (omega arith) fits here
    (λ levels is_key n m b c may deep few light.
    map_in section members at offset after levels is_key
    inner n m b c may (omega (arith, deep)) (omega (arith, few)) light)

pub list_stands : (section : List ℕ) (items : Items) (at after : ℕ) (y : List ℕ)
    → items_len items ≤ most → drop at section ≡ head 11 (items_len items) ++ y
    → ItemsStand section items (at + length (head 11 (items_len items))) after
    → StandsFull section (list items) at after
list_stands section items at after y fits here inner =
    let offset = at + length (head 11 (items_len items)) in
    full_from_head section (list items) at 11 (items_len items) after y (omega arith) fits here
    (λ levels is_key n m b c may deep few light. list_in section items at offset after levels is_key
    inner n m b c may (omega (arith, deep)) (omega (arith, few)) light)
