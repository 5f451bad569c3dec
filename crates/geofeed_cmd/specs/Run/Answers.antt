-- What a command leaves at each status: the answers and their causes.
use Rattle.std.specs.Prelude.{◌≡◌, ℕ, ◌+◌, ◌≤◌, ◌⊎◌, List, [], Option, Some}
use Rattle.geo_outside.specs.Count.{Rose}
use Rattle.geo_outside.specs.Files.{Told}
use Rattle.geofeed_cmd.specs.declared.status.Status.{Status}
use Rattle.geofeed_cmd.specs.declared.status.Status.TheVariants as statuses
use Rattle.job_run.specs.declared.stop.Cause.TheVariants as causes
use Rattle.job_run.specs.declared.stop.Stop.{Stop}
use Rattle.job_run.specs.declared.stop.Stop.TheVariants as stops
use Rattle.job_lines.specs.Commands.{Command}
use Rattle.job_run.specs.Acts.{Move, effect, line_of}
use Rattle.job_run.specs.Course.{course, ended}
use Rattle.geofeed_cmd.specs.Run.Closes.{EndsWith, MayEndWith}
use Rattle.geofeed_cmd.specs.Run.Ending.{Ending, ending}
use Rattle.geofeed_cmd.specs.Run.Plans.{Reaches, file_first, plan_of, planned}
use Rattle.geofeed_cmd.specs.Run.Lines.{stop_line}
use Rattle.job_run.specs.Published.{Publishes}
use Rattle.job_run.specs.Seen.{Seen, Prints, PrintsPart}
use Rattle.job_run.specs.Stops.{Halts, IsSpent}
use Rattle.job_run.specs.World.{World}

-- a command came to this ending
pub record ComesTo (end : Ending) (status : Status) (old new : Seen) : Type 0 where
  pub same : end.status ≡ status
  pub files : new.told ≡ Some end.told
  pub printed : EndsWith old new end.text end.line
  pub steps : new.steps ≤ old.steps + end.spent

-- every move was made, and all of the text was printed
pub record IsDone (command : Option Command) (first : Told) (old new : Seen) : Type 0 where
  pub moves : List Move
  pub start : World
  pub last : World
  pub plan : plan_of first command ≡ planned moves start
  pub all : course moves start ≡ ended last
  pub files : new.told ≡ Some last.told
  pub printed : Prints old.written new.written last.text
  pub steps : new.steps ≤ old.steps + last.session.spent
  pub published : (move : Move) (world : World) → Reaches command first move world
      → Publishes move world.session.state

-- what was printed at a stop in a move: the text before it, and then the stop line, which may be
-- left out behind a put that failed; or a part of the move's own text where the sink failed
abbrev pub Leaves : Stop → Move → World → (old new : Seen) → Type 0
Leaves (stops.Blocked why) move world old new =
    EndsWith old new world.text
    (stop_line (stops.Blocked why) (line_of move) (effect move world).name)
Leaves stops.ReadFailed move world old new =
    EndsWith old new world.text (stop_line stops.ReadFailed (line_of move) (effect move world).name)
Leaves stops.PutFailed move world old new =
    MayEndWith old new world.text
    (stop_line stops.PutFailed (line_of move) (effect move world).name)
Leaves stops.SinkFailed move world old new =
    PrintsPart old.written new.written world.text (effect move world).text
Leaves stops.Memory move world old new = Prints old.written new.written world.text

-- a command stopped at a move that it reached
pub record StopsIn (why : Stop) (command : Option Command) (first : Told)
    (old new : Seen) : Type 0 where
  pub move : Move
  pub world : World
  pub there : Reaches command first move world
  pub files : Halts why move world new.told
  pub printed : Leaves why move world old new
  pub steps : new.steps ≤ old.steps + (effect move world).session.spent

-- the put of a move failed: a put failed in this call
pub record IsUnput (command : Option Command) (first : Told) (old new : Seen)
    (puts puts_now : ℕ) : Type 0 where
  pub rose : Rose puts puts_now
  pub at : StopsIn stops.PutFailed command first old new

-- the print of a move failed: the sink failed in this call
pub record IsUnprintedAt (command : Option Command) (first : Told) (old new : Seen) : Type 0 where
  pub rose : Rose old.print_faults new.print_faults
  pub at : StopsIn stops.SinkFailed command first old new

-- an emit and those before it may take so many steps that they are not counted
pub record IsSpentAt (command : Option Command) (first : Told) (old new : Seen) : Type 0 where
  pub at : StopsIn (stops.Blocked causes.TooLarge) command first old new
  pub spent : IsSpent at.move at.world

-- the file that a command reads first was not read
pub record IsUnread (command : Option Command) (first : Told) (old new : Seen) : Type 0 where
  pub known : Command
  pub name : List ℕ
  pub commanded : command ≡ Some known
  pub named : file_first known ≡ Some name
  pub files : new.told ≡ Some first
  pub printed : EndsWith old new [] (stop_line stops.ReadFailed 0 name)
  pub steps : new.steps ≤ old.steps

-- nothing was done
pub record IsUnchanged (first : Told) (old new : Seen) : Type 0 where
  pub files : new.told ≡ Some first
  pub printed : Prints old.written new.written []
  pub steps : new.steps ≤ old.steps

-- what there is at each status; the counts are those of puts that failed
abbrev pub Comes : Status
    → (command : Option Command) → (first : Told) → (old new : Seen) → (puts puts_now : ℕ) → Type 0
Comes statuses.Done command first old new puts puts_now = IsDone command first old new
Comes statuses.Memory command first old new puts puts_now =
    IsUnchanged first old new ⊎ StopsIn stops.Memory command first old new
Comes statuses.Words command first old new puts puts_now =
    ComesTo (ending first command) statuses.Words old new
Comes statuses.ReadFault command first old new puts puts_now =
    IsUnread command first old new ⊎ StopsIn stops.ReadFailed command first old new
Comes statuses.Missing command first old new puts puts_now =
    ComesTo (ending first command) statuses.Missing old new
Comes statuses.WriteFault command first old new puts puts_now =
    IsUnput command first old new puts puts_now ⊎ IsUnprintedAt command first old new
Comes statuses.Job command first old new puts puts_now =
    ComesTo (ending first command) statuses.Job old new
Comes statuses.Source command first old new puts puts_now =
    ComesTo (ending first command) statuses.Source old new
Comes statuses.TooLarge command first old new puts puts_now =
    ComesTo (ending first command) statuses.TooLarge old new ⊎ IsSpentAt command first old new
Comes statuses.File command first old new puts puts_now =
    ComesTo (ending first command) statuses.File old new
Comes statuses.Drop command first old new puts puts_now =
    ComesTo (ending first command) statuses.Drop old new
Comes statuses.Mark command first old new puts puts_now =
    ComesTo (ending first command) statuses.Mark old new
Comes statuses.Absent command first old new puts puts_now =
    ComesTo (ending first command) statuses.Absent old new

-- the emits that a command reaches may take so many steps that they are not counted
pub record SpendsAll (command : Option Command) (first : Told) : Type 0 where
  pub move : Move
  pub world : World
  pub there : Reaches command first move world
  pub spent : IsSpent move world

-- the answers that every other one yields to: what failed outside, want of memory,
-- and too large for want of a count of the steps
pub data Prevails (command : Option Command) (first : Told) : Status → Type 0 where
  read : Prevails command first statuses.ReadFault
  write : Prevails command first statuses.WriteFault
  memory : Prevails command first statuses.Memory
  spent : SpendsAll command first → Prevails command first statuses.TooLarge

-- the answer is that of the ending, or the ending yields to it
abbrev pub IsAnswer : (command : Option Command) → (first : Told) → (answer : Status) → Type 0
IsAnswer command first answer =
    ((ending first command).status ≡ answer) ⊎ Prevails command first answer

-- how the command `gen` may end: it reads no file, its sources are within their limits, what it
-- writes is never too large, and nothing is dropped or gone back to
abbrev pub EndsGenerated : Status → Type 0
EndsGenerated statuses.Done = Unit {0}
EndsGenerated statuses.Memory = Unit {0}
EndsGenerated statuses.Words = ⊥
EndsGenerated statuses.ReadFault = ⊥
EndsGenerated statuses.Missing = ⊥
EndsGenerated statuses.WriteFault = Unit {0}
EndsGenerated statuses.Job = ⊥
EndsGenerated statuses.Source = ⊥
EndsGenerated statuses.TooLarge = ⊥
EndsGenerated statuses.File = ⊥
EndsGenerated statuses.Drop = ⊥
EndsGenerated statuses.Mark = ⊥
EndsGenerated statuses.Absent = ⊥
