-- The test says of a tree whether it can be written.
use Rattle.std.proofs.Common.{◌≡◌, ℕ, ◌-◌, ◌<◌, ◌≤◌, Bool, true, false, ltb, leb, length, refl, sym}
use Rattle.std.proofs.Common.{arith}
use Rattle.std.specs.Prelude.{◌&&◌}
use Rattle.std.proofs.lemmas.Bool.{ltb-true, leb-true, lt-ltb, le-leb, and_parts, and_from}
use Rattle.std.proofs.lemmas.Bool.{and_left, and_right, lt-leb}
use Rattle.mmdb_data.specs.ValueTree.{ValueTree, Members, Items, map, list, text, bytes, u16, u32}
use Rattle.mmdb_data.specs.ValueTree.{i32, u64}
use Rattle.mmdb_data.specs.ValueTree.{u128, bool, double, float, no_members, member, no_items, item}
use Rattle.mmdb_data.specs.ValueTree.{members_len, items_len, depth, members_depth, items_depth}
use Rattle.mmdb_data.specs.ValueTree.{most}
use Rattle.mmdb_data.specs.ValueTree.{IsNarrow, MembersAreNarrow, ItemsAreNarrow, CanBeSpelled}
use Rattle.mmdb_data.specs.ValueTree.{fits_in}
use Rattle.mmdb_data.specs.ValueTree.{members_fit, items_fit}

-- the three tests of a map or a list
pub all_three : (levels len : ℕ) (inner : Bool) → 0 < levels → len ≤ most
    → inner ≡ (ltb 0 levels && (leb len most && inner))
all_three levels len inner some few = let a = lt-ltb 0 levels some in let b = le-leb len most few in
    rw (a, b) refl

pub too_many : (levels len : ℕ) (inner : Bool) → most < len
    → false ≡ (ltb 0 levels && (leb len most && inner))
too_many levels len inner many =
    sym (and_right (ltb 0 levels) (leb len most && inner)
    (and_left (leb len most) inner (lt-leb len most many)))

mutual
  is_fine : (value : ValueTree) (levels : ℕ) → fits_in value levels ≡ true
      → IsNarrow value × (depth value ≤ levels)
  is_fine (map members) levels e =
      let a = and_parts (ltb 0 levels)
      (leb (members_len members) most && members_fit members (levels - 1)) e in
      let b = and_parts (leb (members_len members) most) (members_fit members (levels - 1)) a.1 in
      let c = members_are_fine members (levels - 1) b.1 in
      ((leb-true (members_len members) most b.0, c.0), omega (arith, ltb-true 0 levels a.0, c.1))
  is_fine (list items) levels e =
      let a = and_parts (ltb 0 levels)
      (leb (items_len items) most && items_fit items (levels - 1)) e in
      let b = and_parts (leb (items_len items) most) (items_fit items (levels - 1)) a.1 in
      let c = items_are_fine items (levels - 1) b.1 in
      ((leb-true (items_len items) most b.0, c.0), omega (arith, ltb-true 0 levels a.0, c.1))
  is_fine (text content) levels e = let a =
      and_parts (ltb 0 levels) (leb (length content) most) e in
      (leb-true (length content) most a.1, ltb-true 0 levels a.0)
  is_fine (bytes content) levels e = let a =
      and_parts (ltb 0 levels) (leb (length content) most) e in
      (leb-true (length content) most a.1, ltb-true 0 levels a.0)
  is_fine (u16 n) levels e = (tt, ltb-true 0 levels e)
  is_fine (u32 n) levels e = (tt, ltb-true 0 levels e)
  is_fine (i32 n) levels e = (tt, ltb-true 0 levels e)
  is_fine (u64 n) levels e = (tt, ltb-true 0 levels e)
  is_fine (u128 n) levels e = (tt, ltb-true 0 levels e)
  is_fine (bool b) levels e = (tt, ltb-true 0 levels e)
  is_fine (double content) levels e = (tt, ltb-true 0 levels e)
  is_fine (float content) levels e = (tt, ltb-true 0 levels e)

  members_are_fine : (members : Members) (levels : ℕ) → members_fit members levels ≡ true
      → MembersAreNarrow members × (members_depth members ≤ levels)
  members_are_fine no_members levels e = (tt, omega arith)
  members_are_fine (member key value others) levels e =
      let a = and_parts (ltb 0 levels)
      (leb (length key) most && (fits_in value levels && members_fit others levels)) e in
      let b = and_parts (leb (length key) most)
      (fits_in value levels && members_fit others levels) a.1 in
      let c = and_parts (fits_in value levels) (members_fit others levels) b.1 in
      let one = is_fine value levels c.0 in
      let rest = members_are_fine others levels c.1 in (
        (leb-true (length key) most b.0, one.0, rest.0),
        omega (arith, ltb-true 0 levels a.0, one.1, rest.1),
      )

  items_are_fine : (items : Items) (levels : ℕ) → items_fit items levels ≡ true
      → ItemsAreNarrow items × (items_depth items ≤ levels)
  items_are_fine no_items levels e = (tt, omega arith)
  items_are_fine (item value others) levels e =
      let a = and_parts (fits_in value levels) (items_fit others levels) e in
      let one = is_fine value levels a.0 in
      let rest = items_are_fine others levels a.1 in
      ((one.0, rest.0), omega (arith, one.1, rest.1))

mutual
  fine_fits : (value : ValueTree) (levels : ℕ) → IsNarrow value → depth value ≤ levels
      → fits_in value levels ≡ true
  fine_fits (map members) levels narrow deep =
      and_from (ltb 0 levels) (leb (members_len members) most && members_fit members (levels - 1))
      (lt-ltb 0 levels (omega arith))
      (and_from (leb (members_len members) most) (members_fit members (levels - 1))
      (le-leb (members_len members) most narrow.0)
      (fine_members_fit members (levels - 1) narrow.1 (omega arith)))
  fine_fits (list items) levels narrow deep =
      and_from (ltb 0 levels) (leb (items_len items) most && items_fit items (levels - 1))
      (lt-ltb 0 levels (omega arith))
      (and_from (leb (items_len items) most) (items_fit items (levels - 1))
      (le-leb (items_len items) most narrow.0)
      (fine_items_fit items (levels - 1) narrow.1 (omega arith)))
  fine_fits (text content) levels narrow deep =
      and_from (ltb 0 levels) (leb (length content) most) (lt-ltb 0 levels deep)
      (le-leb (length content) most narrow)
  fine_fits (bytes content) levels narrow deep =
      and_from (ltb 0 levels) (leb (length content) most) (lt-ltb 0 levels deep)
      (le-leb (length content) most narrow)
  fine_fits (u16 n) levels narrow deep = lt-ltb 0 levels deep
  fine_fits (u32 n) levels narrow deep = lt-ltb 0 levels deep
  fine_fits (i32 n) levels narrow deep = lt-ltb 0 levels deep
  fine_fits (u64 n) levels narrow deep = lt-ltb 0 levels deep
  fine_fits (u128 n) levels narrow deep = lt-ltb 0 levels deep
  fine_fits (bool b) levels narrow deep = lt-ltb 0 levels deep
  fine_fits (double content) levels narrow deep = lt-ltb 0 levels deep
  fine_fits (float content) levels narrow deep = lt-ltb 0 levels deep

  fine_members_fit : (members : Members) (levels : ℕ) → MembersAreNarrow members
      → members_depth members ≤ levels → members_fit members levels ≡ true
  fine_members_fit no_members levels narrow deep = refl
  fine_members_fit (member key value others) levels narrow deep =
      and_from (ltb 0 levels) (leb (length key) most
      && (fits_in value levels && members_fit others levels)) (lt-ltb 0 levels (omega arith))
      (and_from (leb (length key) most) (fits_in value levels && members_fit others levels)
      (le-leb (length key) most narrow.0)
      (and_from (fits_in value levels) (members_fit others levels)
      (fine_fits value levels narrow.1 (omega arith))
      (fine_members_fit others levels narrow.2 (omega arith))))

  fine_items_fit : (items : Items) (levels : ℕ) → ItemsAreNarrow items → items_depth items ≤ levels
      → items_fit items levels ≡ true
  fine_items_fit no_items levels narrow deep = refl
  fine_items_fit (item value others) levels narrow deep =
      and_from (fits_in value levels) (items_fit others levels)
      (fine_fits value levels narrow.0 (omega arith))
      (fine_items_fit others levels narrow.1 (omega arith))

pub fits_means : (value : ValueTree) → fits_in value 32 ≡ true → CanBeSpelled value
fits_means value e = is_fine value 32 e

pub fits_when : (value : ValueTree) → CanBeSpelled value → fits_in value 32 ≡ true
fits_when value fits = fine_fits value 32 fits.0 fits.1
