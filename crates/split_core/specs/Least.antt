-- The fewest blocks that make a range.
use Rattle.std.specs.Prelude.{ℕ, ◌+◌, ◌-◌, ◌^◌, ◌≤◌, ◌↔◌, ◌⊎◌, List, [], ◌∷◌, length, All}
use Rattle.geo_addr.specs.Ranges.{Ends, Prefix, IsBlock, IsWithin, range_of_block}

-- the point past a block's end
abbrev pub past : Prefix → ℕ
past b = b.first + 2 ^ (128 - b.len)

-- an address lies in one of the blocks
abbrev pub Covers : List Prefix → ℕ → Type 0
Covers [] a = ⊥
Covers (b ∷ bs) a = IsWithin (range_of_block b) a ⊎ Covers bs a

-- the blocks have exactly the addresses of the range
abbrev pub HaveAddresses : List Prefix → Ends → Type 0
HaveAddresses bs r = (a : ℕ) → Covers bs a ↔ IsWithin r a

-- the first block begins at a point or later, and each other one past the end of the one before
abbrev pub Ascend : ℕ → List Prefix → Type 0
Ascend point [] = Unit {0}
Ascend point (b ∷ bs) = (point ≤ b.first) × Ascend (past b) bs

-- aligned, ascending, disjoint blocks with exactly the range's addresses,
-- and no list of blocks with these addresses is shorter
pub record AreLeastFor (r : Ends) (bs : List Prefix) : Type 0 where
  pub aligned : All IsBlock bs
  pub ascending : Ascend r.first bs
  pub exact : HaveAddresses bs r
  pub least : (others : List Prefix) → All IsBlock others → HaveAddresses others r
      → length bs ≤ length others
