-- How a set of things with numbers finds each of them by its number.
use Rattle.std.specs.Prelude.{◌≡◌, ℕ, ◌+◌, ◌^◌, ◌<◌, List, length, slice_get, slice_index}
use Rattle.std.specs.Prelude.{nat_lt, Some}
use Rattle.least_nodes.specs.Marks.{is_marked}

-- a number stands for a position: the list holds one more than that at the number
abbrev pub StandsFor : List ℕ → ℕ → ℕ → Type 0
StandsFor next n k = slice_get next n ≡ Some (k + 1)

-- the number of each of these things, fewer than 2^32, stands for its position, and no other number
-- for any
pub record IsFoundBy {X : Type 0} (number_of : X → ℕ) (xs : List X) (next : List ℕ) : Type 0 where
  pub few : length xs < 2 ^ 32
  pub each : (k : ℕ) (x : X) → slice_get xs k ≡ Some x → StandsFor next (number_of x) k
  pub only : (n k : ℕ) → StandsFor next n k
      → (x : X) × (slice_get xs k ≡ Some x) × (number_of x ≡ n)

-- the marked numbers are those that stand for a position
abbrev pub AreMarked : List ℕ → (words : List ℕ) → Type 0
AreMarked next words = (n : ℕ) → is_marked words n ≡ nat_lt 0 (slice_index next n)

-- the number of a place
abbrev pub own_number : ℕ → ℕ
own_number n = n
