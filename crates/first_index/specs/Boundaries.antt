-- Boundaries: the addresses at which the first range of a list that holds an address may change.
use Rattle.std.specs.Prelude.{◌≡◌, ℕ, ◌^◌, ◌<◌, nat_le, if◌then◌else◌, List, [], ◌∷◌, Option, None}
use Rattle.std.specs.Prelude.{position}
use Rattle.std.specs.List.Sorted.{IsNonDecreasingBy}
use Rattle.geo_addr.specs.Ranges.{Ends, holds}
use Rattle.first_index.specs.declared.boundaries.Boundary.{Boundary}

-- what the last boundary at or below an address tells; where there is none, what was told before
abbrev pub told : Option ℕ → List Boundary → ℕ → Option ℕ
told before [] a = before
told before (b ∷ bs) a = if nat_le b.at a then told b.first bs a else before

-- these boundaries tell the first range of a list that holds an address, by its index in the list
pub record AreBoundaries (ranges : List Ends) (bs : List Boundary) : Type 0 where
  pub ordered : IsNonDecreasingBy (λ (b : Boundary). b.at) bs
  pub tell : (a : ℕ) → a < 2 ^ 128 → told None bs a ≡ position (λ r. holds r a) ranges
