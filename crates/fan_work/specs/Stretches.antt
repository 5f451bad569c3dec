-- A stretch of the pieces.
use Rattle.std.specs.Prelude.{◌≡◌, ℕ, ◌+◌, ◌<◌, ◌≤◌}
use Rattle.fan_work.specs.Pieces.{HasItems, piece_start}
use Rattle.fan_work.specs.declared.stretch.Stretch.{Stretch}

-- a stretch cut in two: the second begins with the piece at which the first ends
pub record AreHalves (stretch left right : Stretch) : Type 0 where
  pub left_is : left ≡ record stretch { to = right.from }
  pub right_is : right ≡ record stretch { from = left.to }

-- one or more neighbouring pieces, which have so many items
pub record IsStretch (stretch : Stretch) (items : ℕ) : Type 0 where
  pub some : stretch.from < stretch.to
  pub within : stretch.to ≤ stretch.pieces
  pub held : piece_start stretch.pieces stretch.count stretch.from + items
      ≡ piece_start stretch.pieces stretch.count stretch.to

-- each piece of a stretch that has items has entered
pub record HaveEntered (entered : ℕ → Type 0) (stretch : Stretch) : Type 0 where
  pub each : (j : ℕ) → stretch.from ≤ j → j < stretch.to → HasItems stretch.pieces stretch.count j
      → entered j
