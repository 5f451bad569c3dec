-- The run of a list of moves, one after another, up to the first that cannot be made.
use Rattle.std.specs.Prelude.{◌≡◌, ℕ, List, [], ◌∷◌, take, slice_get, Option, Some, None}
use Rattle.job_run.specs.declared.stop.Cause.{Cause}
use Rattle.job_run.specs.Acts.{Move, blocked, after}
use Rattle.job_run.specs.World.{World}

-- how a list of moves comes out: all were made, or one was blocked
pub data Outcome : Type 0 where
  ended : World → Outcome
  stopped : Move → Cause → World → Outcome

abbrev pub unless : Option Cause → Move → World → Outcome → Outcome
unless None move world next = next
unless (Some why) move world next = stopped move why world

-- the moves are made in order; the first one that is blocked stops them
abbrev pub course : List Move → World → Outcome
course [] world = ended world
course (move ∷ moves) world =
    unless (blocked move world) move world (course moves (after move world))

-- the run of a list goes on with more moves
abbrev pub go_on : Outcome → List Move → Outcome
go_on (ended world) more = course more world
go_on (stopped move why world) more = stopped move why world

-- the moves before this index were all made, they led to this world, and this is the next move
pub record IsAt (moves : List Move) (start : World) (count : ℕ) (move : Move)
    (world : World) : Type 0 where
  pub done : course (take count moves) start ≡ ended world
  pub next : slice_get moves count ≡ Some move
