-- The first in an order, among all members of a list and among those that hold an address.
use Rattle.std.specs.Prelude.{◌≡◌, ℕ, Bool, false, if◌then◌else◌, Option, Some, None, List, []}
use Rattle.std.specs.Prelude.{filter, fold, MatchOption, Contains, All}
use Rattle.geo_addr.specs.Ranges.{Ends, holds}

module _ {X : Type 0} (before : X → X → Bool) where
  -- the first so far and one more member: where neither is before the other, the earlier one stays
  abbrev pub better : Option X → X → Option X
  better None x = Some x
  better (Some y) x = Some (if before x y then x else y)

  -- the first member in the order
  abbrev pub first_of : List X → Option X
  first_of xs = fold better None xs

  -- the first, said of a list: no member is before it
  abbrev pub IsFirst : List X → Option X → Type 0
  IsFirst xs r = MatchOption r (xs ≡ []) (λ x. Contains xs x × All (λ y. before y x ≡ false) xs)

-- the members whose ground holds the address
abbrev pub holders : {X : Type 0} → (X → Ends) → List X → ℕ → List X
holders range_of xs a = filter (λ x. holds (range_of x) a) xs

-- the first in the order among those that hold the address
abbrev pub first_at : {X : Type 0} → (X → X → Bool) → (X → Ends) → List X → ℕ → Option X
first_at before range_of xs a = first_of before (holders range_of xs a)
