-- The pieces of a list of items, and what a relation between items and results allows.
use Rattle.std.specs.Prelude.{◌≡◌, ℕ, ◌+◌, ◌*◌, ◌/◌, ◌<◌}

-- how many of so many items stand before this one of so many pieces
unfoldable pub piece_start : ℕ → ℕ → ℕ → ℕ
piece_start pieces count piece = piece * count / pieces

-- of so many pieces of so many items this one has some: those from its start to the next one's
pub record HasItems (pieces count piece : ℕ) : Type 0 where
  pub one_of : piece < pieces
  pub some : piece_start pieces count piece < piece_start pieces count (piece + 1)

-- for each item x the relation allows no result but f x
abbrev pub AllowsOnly : {A B : Type 0} → (A → B → Type 0) → (A → B) → Type 0
AllowsOnly {A} {B} R f = (x : A) (y : B) → R x y → y ≡ f x
