-- Painting: giving leaves to ranges of addresses.
use Rattle.std.specs.Prelude.{◌≡◌, ℕ, zero, suc, ◌+◌, ◌-◌, ◌^◌, ◌<◌, ◌≤◌, Bool, ◌&&◌, not, nat_le}
use Rattle.std.specs.Prelude.{nat_lt, false, true, if◌then◌else◌, List, [], ◌∷◌, length, Option}
use Rattle.std.specs.Prelude.{Some, None, sum_by, All, slice_get, ◌⊎◌}
use Rattle.std.specs.List.{AllAdjacentBelow}
use Rattle.geo_addr.specs.Bits.{number_of}
use Rattle.geo_addr.specs.Ranges.{Ends, IsRange}
use Rattle.trie_core.specs.declared.node.Rec.{Rec}
use Rattle.trie_core.specs.declared.node.Rec.TheVariants.{Leaf}
use Rattle.trie_core.specs.declared.node.Root.{Root}
use Rattle.trie_core.specs.declared.node.Pair.{Pair}
use Rattle.trie_core.specs.declared.paint.Part.{Part}
use Rattle.trie_core.specs.Tree.{Tree, height, look}
use Rattle.trie_core.specs.Store.{meaning, leaf_at, IsOf, IsRootOf}
use Rattle.trie_core.specs.Graft.{half}

-- the parts ascend, and no two share an address
pub record IsAscending (parts : List Part) : Type 0 where
  pub ranges : All (λ p. IsRange p.range) parts
  pub apart : AllAdjacentBelow (λ p q. p.range.last < q.range.first) parts (length parts)

-- the leaf of the part that has the address
abbrev pub leaf_in : List Part → ℕ → Option ℕ
leaf_in [] at = None
leaf_in (p ∷ ps) at =
    if nat_le p.range.first at && nat_le at p.range.last then Some p.leaf else leaf_in ps at

-- what is painted stands over what was there
abbrev pub over : Option ℕ → Option ℕ → Option ℕ
over None was = was
over (Some leaf) was = Some leaf

-- the new tree of the block of 2 ^ n addresses from `first` has the parts' leaves,
-- and the old tree's leaves elsewhere
pub record IsPainted (old new : Tree ℕ) (n first : ℕ) (parts : List Part) : Type 0 where
  pub lookups : (w : List Bool) → length w ≡ n
      → look new w ≡ over (leaf_in parts (first + number_of w)) (look old w)
  pub low : height new ≤ n

-- a record of the store means the painted tree of the block
abbrev pub HoldsPainted : List Pair → Tree ℕ → ℕ → ℕ → List Part → Type 0
HoldsPainted pairs old n first parts =
    (rec : Rec) × IsOf pairs rec × IsPainted old (meaning pairs rec) n first parts

-- a root of the store has the parts' leaves, and these leaves elsewhere
abbrev pub HoldsPaintedRoot : List Pair → (ℕ → Option ℕ) → List Part → Type 0
HoldsPaintedRoot pairs was parts =
    (root : Root) × IsRootOf pairs root
    × ((a : ℕ) → a < 2 ^ 128 → leaf_at pairs root a ≡ over (leaf_in parts a) (was a))

-- the store is full, and no root of it has the parts' leaves and these leaves elsewhere
abbrev pub IsFullWithout : List Pair → (ℕ → Option ℕ) → List Part → Type 0
IsFullWithout pairs was parts = (length pairs + 1 ≡ 2 ^ 32) × (HoldsPaintedRoot pairs was parts → ⊥)

-- one range with its leaf
abbrev pub one_part : Ends → ℕ → List Part
one_part range leaf = record { range = range; leaf = leaf } ∷ []

-- the range has an address of the block of 2 ^ n addresses from `first`, and not all of them
abbrev pub is_cut : ℕ → ℕ → Ends → Bool
is_cut n first r =
    (nat_le first r.last && nat_lt r.first (first + 2 ^ n))
    && not (nat_le r.first first && nat_le (first + 2 ^ n) (r.last + 1))

-- how many blocks at and below the block of 2 ^ n addresses from `first` the range cuts
unfoldable pub cut_blocks : ℕ → ℕ → Ends → ℕ
cut_blocks zero first r = 0
cut_blocks (suc n) first r =
    if is_cut (suc n) first r
    then suc (cut_blocks n first r + cut_blocks n (first + 2 ^ n) r) else 0

-- how many blocks all parts cut
abbrev pub paint_cost : ℕ → ℕ → List Part → ℕ
paint_cost n first parts = sum_by (λ p. cut_blocks n first p.range) parts

-- each part ends at `first` or after it
abbrev pub AllEndFrom : ℕ → List Part → Type 0
AllEndFrom first parts = All (λ p. first ≤ p.range.last) parts

-- the first part has an address of the block from `first` to `last`, and not all of them
pub record IsCut (first last : ℕ) (parts : List Part) : Type 0 where
  pub part : Part
  pub first_is : Some part ≡ slice_get parts 0
  pub begins : part.range.first ≤ last
  pub ends : first ≤ part.range.last
  pub other : (part.range.first ≤ first) × (last ≤ part.range.last) → ⊥

-- the parts that end after the last address of a block, which are the last ones
pub record AreLeft (parts left : List Part) (last : ℕ) : Type 0 where
  pub ascending : IsAscending left
  pub begun : AllEndFrom (last + 1) left
  pub same : (a : ℕ) → last < a → leaf_in left a ≡ leaf_in parts a
  pub cheaper : (n first : ℕ) → paint_cost n first left ≤ paint_cost n first parts

-- the record of a block is what it was where no part has an address of the block,
-- and else the leaf of the part that has all of them
abbrev pub IsSettled : ℕ → ℕ → List Part → Rec → Rec → Type 0
IsSettled first last parts was rec =
    ((rec ≡ was) × ((a : ℕ) → first ≤ a → a ≤ last → leaf_in parts a ≡ None))
    ⊎ ((k : ℕ) × (rec ≡ Leaf k) × ((a : ℕ) → first ≤ a → a ≤ last → leaf_in parts a ≡ Some k))

-- the two halves of a block under a record
pub record IsHalved (pairs : List Pair) (rec left right : Rec) : Type 0 where
  pub left_of : IsOf pairs left
  pub right_of : IsOf pairs right
  pub left_is : meaning pairs left ≡ half false (meaning pairs rec)
  pub right_is : meaning pairs right ≡ half true (meaning pairs rec)
  pub left_look : (w : List Bool)
      → look (meaning pairs rec) (false ∷ w) ≡ look (meaning pairs left) w
  pub right_look : (w : List Bool)
      → look (meaning pairs rec) (true ∷ w) ≡ look (meaning pairs right) w
  pub left_low : height (meaning pairs left) ≤ height (meaning pairs rec) - 1
  pub right_low : height (meaning pairs right) ≤ height (meaning pairs rec) - 1
