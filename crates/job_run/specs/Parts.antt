-- What some of the moves of a job leave: all of them were made, or one was not.
use Rattle.std.specs.Prelude.{◌≡◌, ℕ, ◌+◌, ◌≤◌, List, ◌++◌, drop, slice_get, Some}
use Rattle.update_session.specs.Kept.{Held}
use Rattle.job_lines.specs.declared.job.Step.{Step}
use Rattle.job_run.specs.Acts.{Move, effect, step_of}
use Rattle.job_run.specs.Course.{course, ended, IsAt}
use Rattle.job_run.specs.Moves.{moves_by}
use Rattle.job_run.specs.Published.{Publishes}
use Rattle.job_run.specs.Seen.{Seen, Prints}
use Rattle.job_run.specs.Stops.{Fails, IsIn}
use Rattle.job_run.specs.World.{World}
use Rattle.job_run.specs.declared.scope.Scope.{Scope}
use Rattle.job_run.specs.declared.stop.Stop.{Stop}

-- these moves were made from a world on
pub record DoesPart (moves : List Move) (world : World) (session : Held)
    (old new : Seen) : Type 0 where
  pub then : World
  pub done : course moves world ≡ ended then
  pub stands : IsIn new.told session then
  pub text : List ℕ
  pub grown : then.text ≡ world.text ++ text
  pub printed : Prints old.written new.written text
  pub paid : new.steps + world.session.spent ≤ old.steps + then.session.spent
  pub published : (count : ℕ) (move : Move) (there : World) → IsAt moves world count move there
      → Publishes move there.session.state

-- of these moves one was not made, which belongs to this step
pub record FailsPart (why : Stop) (moves : List Move) (step : Step) (world : World)
    (old new : Seen) : Type 0 where
  pub count : ℕ
  pub move : Move
  pub then : World
  pub there : IsAt moves world count move then
  pub its : step_of move ≡ Some step
  pub text : List ℕ
  pub grown : then.text ≡ world.text ++ text
  pub fails : Fails why move then text old new
  pub paid : new.steps + world.session.spent ≤ old.steps + (effect move then).session.spent

-- the moves of the first lines, so many, were made
pub record DoesFirst (scope : Scope) (steps : List Step) (count : ℕ) (world : World)
    (session : Held) (old new : Seen) : Type 0 where
  pub moves : List Move
  pub split : moves_by scope steps ≡ moves ++ moves_by scope (drop count steps)
  pub part : DoesPart moves world session old new

-- of these moves one was not made, which belongs to the step at this index
pub record FailsAt (why : Stop) (moves : List Move) (steps : List Step) (at : ℕ) (world : World)
    (old new : Seen) : Type 0 where
  pub step : Step
  pub named : slice_get steps at ≡ Some step
  pub part : FailsPart why moves step world old new
