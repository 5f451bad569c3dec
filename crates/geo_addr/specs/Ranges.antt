-- Addresses, ranges, blocks, grounds and cut points.
-- An address is a number below 2 ^ 128; the IPv4 addresses are the numbers below 2 ^ 32.
use Rattle.std.specs.Prelude.{◌≡◌, ℕ, ◌+◌, ◌-◌, ◌%◌, ◌^◌, ◌<◌, ◌≤◌, ◌↔◌, ◌⊎◌, ◌&&◌, Bool, nat_lt}
use Rattle.std.specs.Prelude.{nat_le, max, if◌then◌else◌, List, [], ◌∷◌, Any, Contains}

-- a range: its first and its last address, both in it
pub record Ends : Type 0 where
  pub first : ℕ
  pub last : ℕ

-- a range of addresses is not empty and ends below 2 ^ 128
pub record IsRange (r : Ends) : Type 0 where
  pub ordered : r.first ≤ r.last
  pub within : r.last < 2 ^ 128

-- a block: its first address and the length of its prefix, in bits of an IPv6 address
pub record Prefix : Type 0 where
  pub first : ℕ
  pub len : ℕ

-- a block is aligned: it has 2 ^ (128 - len) addresses and begins at a multiple of that
pub record IsBlock (b : Prefix) : Type 0 where
  pub length_fits : b.len ≤ 128
  pub within : b.first < 2 ^ 128
  pub aligned : b.first % 2 ^ (128 - b.len) ≡ 0

-- the addresses of a block
abbrev pub range_of_block : Prefix → Ends
range_of_block b = record { first = b.first; last = b.first + (2 ^ (128 - b.len) - 1) }

-- a range is IPv4 where its last address is; every other range is IPv6
abbrev pub is_v4 : Ends → Bool
is_v4 r = nat_lt r.last (2 ^ 32)

-- how far apart the ends are: one less than the number of addresses, which need not fit 128 bits
abbrev pub size : Ends → ℕ
size r = r.last - r.first

-- the first address of the ground: the range itself for IPv4, else its part from 2 ^ 32 up
unfoldable pub ground_first : Ends → ℕ
ground_first r = if is_v4 r then r.first else max r.first (2 ^ 32)

-- a range holds the addresses of its ground
unfoldable pub holds : Ends → ℕ → Bool
holds r a = nat_le (ground_first r) a && nat_le a r.last

-- an address lies between the ends, as plain numbers
abbrev pub IsWithin : Ends → ℕ → Type 0
IsWithin r a = (r.first ≤ a) × (a ≤ r.last)

-- the edges of a ground: where it begins, and the point past its end
abbrev pub edges_of : Ends → List ℕ
edges_of r = ground_first r ∷ (r.last + 1) ∷ []

-- a point is an edge of a ground
abbrev pub IsEdge : ℕ → Ends → Type 0
IsEdge c r = (c ≡ ground_first r) ⊎ (c ≡ r.last + 1)

-- the cut points of a list of ranges are the edges of their grounds
abbrev pub IsCut : List Ends → ℕ → Type 0
IsCut ranges c = Any (IsEdge c) ranges

-- these points are the cut points that lie within a range
abbrev pub AreCuts : List Ends → Ends → List ℕ → Type 0
AreCuts ranges within points = (c : ℕ) → Contains points c ↔ (IsCut ranges c × IsWithin within c)

-- no cut point lies above the lower and at or below the higher address
abbrev pub NoCut : List Ends → ℕ → ℕ → Type 0
NoCut ranges a b = (c : ℕ) → a < c → c ≤ b → IsCut ranges c → ⊥
