-- What a value of the data section stands for (MaxMind DB 2.0, "Output Data Section"), with lists
-- instead of the vectors.
use Rattle.std.specs.Prelude.{◌≡◌, ◌≤◌, ◌<◌, ℕ, suc, ◌+◌, ◌^◌, max, ℤ, Bool, true, ◌&&◌, nat_lt}
use Rattle.std.specs.Prelude.{nat_le, ◌-◌, List, length, FitsSigned}
use Rattle.std.specs.Int.{w32}
use Rattle.std.specs.Str.{IsUtf8}
use Rattle.mmdb_data.specs.declared.budget.TheConstants.{BYTES, VALUES}
use Rattle.mmdb_data.specs.declared.sizes.TheConstants.{LEVELS, MOST}

-- doubles and floats are kept as their bytes
mutual
  pub data ValueTree : Type 0 where
    map : Members → ValueTree
    list : Items → ValueTree
    text : List ℕ → ValueTree
    bytes : List ℕ → ValueTree
    u16 : ℕ → ValueTree
    u32 : ℕ → ValueTree
    i32 : ℤ → ValueTree
    u64 : ℕ → ValueTree
    u128 : ℕ → ValueTree
    bool : Bool → ValueTree
    double : List ℕ → ValueTree
    float : List ℕ → ValueTree

  pub data Members : Type 0 where
    no_members : Members
    member : List ℕ → ValueTree → Members → Members

  pub data Items : Type 0 where
    no_items : Items
    item : ValueTree → Items → Items

abbrev pub members_len : Members → ℕ
members_len no_members = 0
members_len (member key value members) = suc (members_len members)

abbrev pub items_len : Items → ℕ
items_len no_items = 0
items_len (item value items) = suc (items_len items)

-- how many values there are, keys counted
abbrev mutual
  pub count : ValueTree → ℕ
  count (map members) = suc (members_count members)
  count (list items) = suc (items_count items)
  count (text content) = 1
  count (bytes content) = 1
  count (u16 n) = 1
  count (u32 n) = 1
  count (i32 n) = 1
  count (u64 n) = 1
  count (u128 n) = 1
  count (bool b) = 1
  count (double content) = 1
  count (float content) = 1

  pub members_count : Members → ℕ
  members_count no_members = 0
  members_count (member key value members) = suc (count value + members_count members)

  pub items_count : Items → ℕ
  items_count no_items = 0
  items_count (item value items) = count value + items_count items

-- how deep values are nested: the outermost is 1, and keys and values of a map and members of a
-- list are one deeper
abbrev mutual
  pub depth : ValueTree → ℕ
  depth (map members) = suc (members_depth members)
  depth (list items) = suc (items_depth items)
  depth (text content) = 1
  depth (bytes content) = 1
  depth (u16 n) = 1
  depth (u32 n) = 1
  depth (i32 n) = 1
  depth (u64 n) = 1
  depth (u128 n) = 1
  depth (bool b) = 1
  depth (double content) = 1
  depth (float content) = 1

  pub members_depth : Members → ℕ
  members_depth no_members = 0
  members_depth (member key value members) = max 1 (max (depth value) (members_depth members))

  pub items_depth : Items → ℕ
  items_depth no_items = 0
  items_depth (item value items) = max (depth value) (items_depth items)

-- how many bytes its texts, keys and byte strings have together
abbrev mutual
  pub bytes_in : ValueTree → ℕ
  bytes_in (map members) = members_bytes members
  bytes_in (list items) = items_bytes items
  bytes_in (text content) = length content
  bytes_in (bytes content) = length content
  bytes_in (u16 n) = 0
  bytes_in (u32 n) = 0
  bytes_in (i32 n) = 0
  bytes_in (u64 n) = 0
  bytes_in (u128 n) = 0
  bytes_in (bool b) = 0
  bytes_in (double content) = 0
  bytes_in (float content) = 0

  pub members_bytes : Members → ℕ
  members_bytes no_members = 0
  members_bytes (member key value members) = length key + (bytes_in value + members_bytes members)

  pub items_bytes : Items → ℕ
  items_bytes no_items = 0
  items_bytes (item value items) = bytes_in value + items_bytes items

-- what one reading may give
abbrev pub IsWithinLimits : ValueTree → Type 0
IsWithinLimits value = (count value ≤ VALUES) × (bytes_in value ≤ BYTES)

-- the greatest size that a control byte and three size bytes can tell
abbrev pub most : ℕ
most = MOST

-- each size can be told
abbrev mutual
  pub IsNarrow : ValueTree → Type 0
  IsNarrow (map members) = (members_len members ≤ most) × MembersAreNarrow members
  IsNarrow (list items) = (items_len items ≤ most) × ItemsAreNarrow items
  IsNarrow (text content) = length content ≤ most
  IsNarrow (bytes content) = length content ≤ most
  IsNarrow (u16 n) = Unit {0}
  IsNarrow (u32 n) = Unit {0}
  IsNarrow (i32 n) = Unit {0}
  IsNarrow (u64 n) = Unit {0}
  IsNarrow (u128 n) = Unit {0}
  IsNarrow (bool b) = Unit {0}
  IsNarrow (double content) = Unit {0}
  IsNarrow (float content) = Unit {0}

  pub MembersAreNarrow : Members → Type 0
  MembersAreNarrow no_members = Unit {0}
  MembersAreNarrow (member key value members) =
      (length key ≤ most) × IsNarrow value × MembersAreNarrow members

  pub ItemsAreNarrow : Items → Type 0
  ItemsAreNarrow no_items = Unit {0}
  ItemsAreNarrow (item value items) = IsNarrow value × ItemsAreNarrow items

-- what can be written: each size can be told, and values are nested at most so deep
abbrev pub CanBeSpelled : ValueTree → Type 0
CanBeSpelled value = IsNarrow value × (depth value ≤ LEVELS)

-- the same as a test, with so many levels left
abbrev mutual
  pub fits_in : ValueTree → ℕ → Bool
  fits_in (map members) levels =
      nat_lt 0 levels && (nat_le (members_len members) most && members_fit members (levels - 1))
  fits_in (list items) levels =
      nat_lt 0 levels && (nat_le (items_len items) most && items_fit items (levels - 1))
  fits_in (text content) levels = nat_lt 0 levels && nat_le (length content) most
  fits_in (bytes content) levels = nat_lt 0 levels && nat_le (length content) most
  fits_in (u16 n) levels = nat_lt 0 levels
  fits_in (u32 n) levels = nat_lt 0 levels
  fits_in (i32 n) levels = nat_lt 0 levels
  fits_in (u64 n) levels = nat_lt 0 levels
  fits_in (u128 n) levels = nat_lt 0 levels
  fits_in (bool b) levels = nat_lt 0 levels
  fits_in (double content) levels = nat_lt 0 levels
  fits_in (float content) levels = nat_lt 0 levels

  pub members_fit : Members → ℕ → Bool
  members_fit no_members levels = true
  members_fit (member key value members) levels =
      nat_lt 0 levels && (nat_le (length key) most
      && (fits_in value levels && members_fit members levels))

  pub items_fit : Items → ℕ → Bool
  items_fit no_items levels = true
  items_fit (item value items) levels = fits_in value levels && items_fit items levels

-- each value is of its type, as every value of a program is
abbrev mutual
  pub IsTyped : ValueTree → Type 0
  IsTyped (map members) = MembersAreTyped members
  IsTyped (list items) = ItemsAreTyped items
  IsTyped (text content) = IsUtf8 content
  IsTyped (bytes content) = Unit {0}
  IsTyped (u16 n) = n < 2 ^ 16
  IsTyped (u32 n) = n < 2 ^ 32
  IsTyped (i32 n) = FitsSigned w32 n
  IsTyped (u64 n) = n < 2 ^ 64
  IsTyped (u128 n) = n < 2 ^ 128
  IsTyped (bool b) = Unit {0}
  IsTyped (double content) = length content ≡ 8
  IsTyped (float content) = length content ≡ 4

  pub MembersAreTyped : Members → Type 0
  MembersAreTyped no_members = Unit {0}
  MembersAreTyped (member key value members) = IsUtf8 key × IsTyped value × MembersAreTyped members

  pub ItemsAreTyped : Items → Type 0
  ItemsAreTyped no_items = Unit {0}
  ItemsAreTyped (item value items) = IsTyped value × ItemsAreTyped items

-- what a section can hold, and what one reading can give of it
abbrev pub CanBePacked : ValueTree → Type 0
CanBePacked value = CanBeSpelled value × IsTyped value

abbrev pub CanBeReadBack : ValueTree → Type 0
CanBeReadBack value = CanBePacked value × IsWithinLimits value
