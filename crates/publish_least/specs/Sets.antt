-- Sets of indexes, as ascending lists.
use Rattle.std.specs.Prelude.{◌≡◌, ℕ, List}
use Rattle.std.specs.List.Sorted.{IsNonDecreasing}
use Rattle.publish_least.specs.Price.{has, shared, or_either}

-- a set is what two others share, or where they share nothing what is in either
pub record IsJoined (xs ys set : List ℕ) : Type 0 where
  pub rises : IsNonDecreasing set
  pub says : (i : ℕ) → has set i ≡ has (or_either (shared xs ys) xs ys) i
