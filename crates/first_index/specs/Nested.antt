-- Grounds that nest: of two that share an address one lies in the other. One pass over them, each
-- outer one before those in it, with the grounds that are open, the innermost last.
use Rattle.std.specs.Prelude.{◌≡◌, ℕ, ◌+◌, ◌-◌, ◌^◌, ◌<◌, ◌≤◌, Bool, ◌&&◌, ◌||◌, nat_eq, nat_lt}
use Rattle.std.specs.Prelude.{nat_le, if◌then◌else◌, List, [], ◌∷◌, map, Option, Some, None}
use Rattle.std.specs.Prelude.{option_map}
use Rattle.std.specs.declared.cmp.Ordering.{Ordering}
use Rattle.std.specs.List.{list_any}
use Rattle.std.specs.List.Sorted.{IsNonDecreasingBy}
use Rattle.std.specs.Ordering.{is_lt}
use Rattle.geo_addr.specs.Ranges.{Ends, ground_first}
use Rattle.first_index.specs.Boundaries.{told}
use Rattle.geo_terms.specs.First.{first_at}
use Rattle.first_index.specs.FirstIndex.{index_cmp}
use Rattle.first_index.specs.declared.boundaries.Boundary.{Boundary}

module _ {C : Type 0} where
  -- what the innermost open ground has that holds an address behind where it begins
  abbrev pub innermost : Option C → List (ℕ × C) → ℕ → Option C
  innermost outer [] a = outer
  innermost outer (o ∷ os) a = if nat_le a o.0 then innermost (Some o.1) os a else outer

  -- what the innermost open ground has
  abbrev pub top : Option C → List (ℕ × C) → Option C
  top outer [] = outer
  top outer (o ∷ os) = top (Some o.1) os

  -- no open ground ends behind the one around it, and none behind this address
  abbrev pub Nest : ℕ → List (ℕ × C) → Type 0
  Nest high [] = Unit {0}
  Nest high (o ∷ os) = (o.0 ≤ high) × Nest o.0 os

  -- the open grounds hold all addresses from where they begin up to this one, itself left out
  abbrev pub Reach : ℕ → List (ℕ × C) → Type 0
  Reach to [] = Unit {0}
  Reach to (o ∷ os) = (to ≤ o.0 + 1) × Reach to os

  -- whether an open ground has ended where this address is reached
  abbrev pub is_end : List (ℕ × C) → ℕ → Bool
  is_end os c = list_any (λ o. nat_eq (o.0 + 1) c) os

-- boundaries ascend, from one address up to another
abbrev pub Climb : ℕ → ℕ → List Boundary → Type 0
Climb low high [] = low ≤ high
Climb low high (b ∷ bs) = (low ≤ b.at) × Climb b.at high bs

-- whether a boundary stands at a point
abbrev pub stands_at : List Boundary → ℕ → Bool
stands_at bs c = list_any (λ b. nat_eq b.at c) bs

-- whether a point is an edge of the ground of one of these ranges
abbrev pub is_edge : List Ends → ℕ → Bool
is_edge rs c = list_any (λ r. nat_eq (ground_first r) c || nat_eq (r.last + 1) c) rs

-- boundaries stand at the edges of these grounds that are addresses
abbrev pub StandAtEdges : List Ends → List Boundary → Type 0
StandAtEdges rs bs = (c : ℕ) → stands_at bs c ≡ (is_edge rs c && nat_lt c (2 ^ 128))

-- one more boundary, which stands for one at the same address
pub record IsPut (at : ℕ) (first : Option ℕ) (old new : List Boundary) : Type 0 where
  pub climb : (low : ℕ) → Climb low at old → Climb low at new
  pub tell : (low : ℕ) → Climb low at old
      → (a : ℕ) → told None new a ≡ (if nat_le at a then first else told None old a)
  pub stand : (low : ℕ) → Climb low at old
      → (c : ℕ) → stands_at new c ≡ (stands_at old c || nat_eq at c)

module _ {X : Type 0} (order : X → X → Ordering) (range_of : X → Ends) where
  -- the first of statements with their indexes that holds an address
  abbrev pub best : List (ℕ × X) → ℕ → Option (ℕ × X)
  best cs a = first_at (λ x y. is_lt (index_cmp order x y)) (λ c. range_of c.1) cs a

  abbrev pub best_index : List (ℕ × X) → ℕ → Option ℕ
  best_index cs a = option_map (λ c. c.0) (best cs a)

  -- these statements are passed up to an address: the boundaries tell the first of them below it,
  -- and the open grounds, each with the first that holds its addresses, from there on
  pub record ArePassed (cs : List (ℕ × X)) (low : ℕ) (bs : List Boundary)
      (os : List (ℕ × (ℕ × X))) : Type 0 where
    pub bound : low ≤ 2 ^ 128
    pub climb : Climb 0 low bs
    pub nest : Nest (2 ^ 128 - 1) os
    pub reach : Reach low os
    pub past : (a : ℕ) → a < low → told None bs a ≡ best_index cs a
    pub now : (a : ℕ) → low ≤ a → a < 2 ^ 128 → best cs a ≡ innermost None os a
    pub here : (a : ℕ) → low ≤ a → a < 2 ^ 128 → told None bs a
        ≡ option_map (λ c. c.0) (top None os)
    pub stand : (c : ℕ) → (stands_at bs c || (is_end os c && nat_lt c (2 ^ 128)))
        ≡ (is_edge (map (λ c. range_of c.1) cs) c && nat_lt c (2 ^ 128))

  -- whatever was passed is passed up to this address, and no ground is open that ends before it
  abbrev pub Closes : ℕ → List Boundary → List (ℕ × (ℕ × X)) → List Boundary
      → List (ℕ × (ℕ × X)) → Type 0
  Closes to bs os new_bs new_os =
      (cs : List (ℕ × X)) (low : ℕ) → low ≤ to → to ≤ 2 ^ 128 → ArePassed cs low bs os
      → ArePassed cs to new_bs new_os × Reach (to + 1) new_os

  -- the boundaries of all these statements
  pub record AreBoundariesOf (cs : List (ℕ × X)) (bs : List Boundary) : Type 0 where
    pub ordered : IsNonDecreasingBy (λ (b : Boundary). b.at) bs
    pub tell : (a : ℕ) → a < 2 ^ 128 → told None bs a ≡ best_index cs a
    pub stand : StandAtEdges (map (λ c. range_of c.1) cs) bs
