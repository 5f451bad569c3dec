-- The causes of the answers, in the words of the job alone.
use Rattle.std.specs.Prelude.{◌≡◌, ◌≤◌, ◌<◌, ℕ, ◌⊎◌, false, List, length, Option, Some, None, Err}
use Rattle.std.specs.FinMap as map
use Rattle.geo_outside.specs.Files.{Told}
use Rattle.job_lines.specs.declared.fault.JobFault.{JobFault}
use Rattle.file_lookup.specs.declared.lookup.LookupFault.{LookupFault}
use Rattle.geofeed_cmd.specs.declared.status.Status.{Status}
use Rattle.geofeed_cmd.specs.declared.status.Status.TheVariants as statuses
use Rattle.job_run.specs.declared.stop.Cause.{Cause}
use Rattle.job_run.specs.declared.stop.Cause.TheVariants as causes
use Rattle.job_lines.specs.Commands.{Command, lookup}
use Rattle.job_run.specs.Course.{IsAt}
use Rattle.geofeed_cmd.specs.Run.Plans.{Reaches, file_first, is_command, job_of, longest_file}
use Rattle.geofeed_cmd.specs.Run.Plans.{plan_of, planned}
use Rattle.job_lines.specs.Job.{job}
use Rattle.file_lookup.specs.Lookup.{answer}
use Rattle.job_run.specs.Acts.{Move, blocked}
use Rattle.job_run.specs.World.{World}

-- the command has a plan, and no move that it reaches is blocked. Of a job: it is held and
-- accepted, the files that it sets are there and within their limits, and the file that it emits is
-- not too large. Of a lookup: the file is held and within its limit, and no fault stands in the way
pub record IsFree (command : Option Command) (first : Told) : Type 0 where
  pub moves : List Move
  pub start : World
  pub plan : plan_of first command ≡ planned moves start
  pub free : (count : ℕ) (move : Move) (world : World) → IsAt moves start count move world
      → blocked move world ≡ None

-- the file that the command reads first is not there
pub record IsAbsent (command : Option Command) (first : Told) : Type 0 where
  pub known : Command
  pub name : List ℕ
  pub commanded : command ≡ Some known
  pub named : file_first known ≡ Some name
  pub absent : map.get first.held name ≡ None

-- the job is refused
pub record IsNoJob (command : Option Command) (first : Told) : Type 0 where
  pub known : Command
  pub name : List ℕ
  pub bytes : List ℕ
  pub fault : JobFault
  pub commanded : command ≡ Some known
  pub its : job_of known ≡ Some name
  pub held : map.get first.held name ≡ Some bytes
  pub refusal : job bytes ≡ Err fault

-- the file to be looked up in has too many bytes
pub record IsOverLimit (command : Option Command) (first : Told) : Type 0 where
  pub name : List ℕ
  pub address : ℕ
  pub bytes : List ℕ
  pub commanded : command ≡ Some (lookup name address)
  pub held : map.get first.held name ≡ Some bytes
  pub long : longest_file < length bytes

-- the file to be looked up in is within its limit, and a fault stands in the way of the address
pub record IsDamaged (command : Option Command) (first : Told) : Type 0 where
  pub name : List ℕ
  pub address : ℕ
  pub bytes : List ℕ
  pub fault : LookupFault
  pub commanded : command ≡ Some (lookup name address)
  pub held : map.get first.held name ≡ Some bytes
  pub within : length bytes ≤ longest_file
  pub damage : answer bytes address ≡ Err fault

-- the first move that is blocked is so for this
pub record IsBlockedFor (why : Cause) (command : Option Command) (first : Told) : Type 0 where
  pub move : Move
  pub world : World
  pub there : Reaches command first move world
  pub cause : blocked move world ≡ Some why

-- the cause of each answer that is decided by the words and by what the folder first tells
abbrev pub Causes : Status → Option Command → (first : Told) → Type 0
Causes statuses.Done command first = IsFree command first
Causes statuses.Memory command first = ⊥
Causes statuses.Words command first = is_command command ≡ false
Causes statuses.ReadFault command first = ⊥
Causes statuses.Missing command first =
    IsAbsent command first ⊎ IsBlockedFor causes.Missing command first
Causes statuses.WriteFault command first = ⊥
Causes statuses.Job command first = IsNoJob command first
Causes statuses.Source command first =
    IsOverLimit command first
    ⊎ (IsBlockedFor causes.TooLong command first ⊎ IsBlockedFor causes.TooMany command first)
Causes statuses.TooLarge command first = IsBlockedFor causes.TooLarge command first
Causes statuses.File command first = IsDamaged command first
Causes statuses.Drop command first = IsBlockedFor causes.NotThere command first
Causes statuses.Mark command first = IsBlockedFor causes.NoMark command first
Causes statuses.Absent command first = IsBlockedFor causes.NoFeed command first
