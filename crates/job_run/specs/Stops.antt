-- What a list of moves leaves where all were made, and where one could not be made: the table of
-- stops.
use Rattle.std.specs.Prelude.{◌≡◌, ℕ, ◌+◌, ◌-◌, ◌^◌, ◌≤◌, ◌⊎◌, List, slice_get, Option, Some, None}
use Rattle.geo_outside.specs.Files.{Told, Spoils}
use Rattle.update_session.specs.Standing.{Stands}
use Rattle.update_session.specs.Kept.{Held}
use Rattle.job_lines.specs.declared.job.Step.{Step}
use Rattle.job_run.specs.declared.stop.Cause.{Cause}
use Rattle.job_run.specs.declared.stop.Cause.TheVariants.{TooLarge}
use Rattle.job_run.specs.declared.stop.Stop.{Stop}
use Rattle.job_run.specs.declared.stop.Stop.TheVariants.{Blocked, ReadFailed, PutFailed, SinkFailed}
use Rattle.job_run.specs.declared.stop.Stop.TheVariants.{Memory}
use Rattle.job_run.specs.Acts.{IsBuilding, IsPrinting, Move, effect, blocked, after, step_of}
use Rattle.job_run.specs.Course.{course, ended, IsAt}
use Rattle.job_run.specs.Published.{Publishes}
use Rattle.job_run.specs.Seen.{Seen, Prints, PrintsPart}
use Rattle.job_run.specs.World.{World, Effect, reads, puts}

-- the folder tells what it holds in this world, and the session stands where it stands there
pub record IsIn (told : Option Told) (session : Held) (world : World) : Type 0 where
  pub tells : told ≡ Some world.told
  pub stands : Stands session world.session

-- so many steps were taken at most as a move and those before it may take
abbrev pub IsPaid : Effect → World → (steps steps_now : ℕ) → Type 0
IsPaid effect world steps steps_now = steps_now + world.session.spent ≤ steps + effect.session.spent

-- a move was made
pub record Does (move : Move) (world : World) (session : Held) (old new : Seen) : Type 0 where
  pub free : blocked move world ≡ None
  pub now : IsIn new.told session (after move world)
  pub printed : Prints old.written new.written (effect move world).text
  pub published : Publishes move world.session.state

-- a move is blocked, and changed no file
pub record IsBlocked (why : Cause) (move : Move) (world : World) (told : Option Told) : Type 0 where
  pub cause : blocked move world ≡ Some why
  pub files : told ≡ Some world.told

-- a move builds a tree, and after it and the moves before it there may be so many nodes or places
-- that there are no numbers for them
pub record IsSpent (move : Move) (world : World) : Type 0 where
  pub builds : IsBuilding move world
  pub many : (2 ^ 32 - 1 ≤ (effect move world).session.nodes)
      ⊎ (2 ^ 32 - 1 ≤ (effect move world).session.numbered)

-- so many that this is answered as too large; no file was changed
pub record IsUncounted (why : Cause) (move : Move) (world : World)
    (told : Option Told) : Type 0 where
  pub large : why ≡ TooLarge
  pub spent : IsSpent move world
  pub files : told ≡ Some world.told

-- a move's read failed
pub record IsReadless (move : Move) (world : World) (told : Option Told) : Type 0 where
  pub reading : (effect move world).files ≡ reads
  pub files : told ≡ Some world.told

-- a move's put failed: its name holds anything or nothing
pub record IsSpoilt (move : Move) (world : World) (told : Option Told) : Type 0 where
  pub bytes : List ℕ
  pub putting : (effect move world).files ≡ puts bytes
  pub free : blocked move world ≡ None
  pub spoilt : Told
  pub tells : told ≡ Some spoilt
  pub spoils : Spoils world.told spoilt (effect move world).name

-- a move that prints was made but for its print
pub record IsUnprinted (move : Move) (world : World) (told : Option Told) : Type 0 where
  pub prints : IsPrinting move
  pub free : blocked move world ≡ None
  pub files : told ≡ Some (after move world).told

-- what the folder tells at a stop
abbrev pub Halts : Stop → Move → World → Option Told → Type 0
Halts (Blocked why) move world told =
    IsBlocked why move world told ⊎ IsUncounted why move world told
Halts ReadFailed move world told = IsReadless move world told
Halts PutFailed move world told = IsSpoilt move world told
Halts SinkFailed move world told = IsUnprinted move world told
Halts Memory move world told = (told ≡ Some world.told) ⊎ IsUnprinted move world told

-- what was printed at a stop: the text before the move, and a part of the move's own where the sink
-- failed
abbrev pub Tail : Stop → (text part : List ℕ) → (old new : Option (List ℕ)) → Type 0
Tail (Blocked why) text part old new = Prints old new text
Tail ReadFailed text part old new = Prints old new text
Tail PutFailed text part old new = Prints old new text
Tail SinkFailed text part old new = PrintsPart old new text part
Tail Memory text part old new = Prints old new text

-- a move was not made
pub record Fails (why : Stop) (move : Move) (world : World) (text : List ℕ)
    (old new : Seen) : Type 0 where
  pub files : Halts why move world new.told
  pub printed : Tail why text (effect move world).text old.written new.written

-- a stop before anything was done: for a cause, or since a read failed or memory ran out
abbrev pub IsHindered : Stop → (Cause → Type 0) → Type 0
IsHindered (Blocked why) stands = stands why
IsHindered ReadFailed stands = Unit {0}
IsHindered PutFailed stands = ⊥
IsHindered SinkFailed stands = ⊥
IsHindered Memory stands = Unit {0}

-- all moves were made
pub record DoesAll (moves : List Move) (start : World) (session : Held)
    (old new : Seen) : Type 0 where
  pub world : World
  pub done : course moves start ≡ ended world
  pub stands : IsIn new.told session world
  pub printed : Prints old.written new.written world.text
  pub steps : new.steps + start.session.spent ≤ old.steps + world.session.spent
  pub published : (count : ℕ) (move : Move) (then : World) → IsAt moves start count move then
      → Publishes move then.session.state

-- the step at this index was not done: the moves before one of its moves were made, and that one
-- was not
pub record StopsAt (why : Stop) (at : ℕ) (moves : List Move) (steps : List Step) (start : World)
    (old new : Seen) : Type 0 where
  pub step : Step
  pub named : slice_get steps at ≡ Some step
  pub count : ℕ
  pub move : Move
  pub world : World
  pub there : IsAt moves start count move world
  pub its : step_of move ≡ Some step
  pub fails : Fails why move world world.text old new
  pub spent : new.steps + start.session.spent ≤ old.steps + (effect move world).session.spent
