-- What a command is to do where the folder first tells this.
use Rattle.std.specs.Prelude.{◌≡◌, ℕ, ◌+◌, Bool, true, false, List, [], ◌∷◌, ◌++◌, Option, Some}
use Rattle.std.specs.Prelude.{None, Result, Ok, Err}
use Rattle.std.specs.FinMap as map
use Rattle.geo_outside.specs.Files.{Told}
use Rattle.geo_outside.specs.declared.whole.TheConstants.{PIECE}
use Rattle.update_session.specs.Standing.{begun_standing}
use Rattle.job_lines.specs.declared.job.Job.{Job}
use Rattle.job_lines.specs.declared.job.Step.{Step}
use Rattle.job_lines.specs.declared.fault.JobFault.{JobFault}
use Rattle.job_lines.specs.Job.{job}
use Rattle.file_lookup.specs.declared.lookup.LookupFault.{LookupFault}
use Rattle.file_lookup.specs.declared.lookup.TheConstants.{LONGEST_FILE}
use Rattle.file_lookup.specs.Lookup.{answer}
use Rattle.job_run.specs.declared.stop.Cause.{Cause}
use Rattle.job_run.specs.declared.stop.Cause.TheVariants as causes
use Rattle.job_run.specs.Acts.{Move, shows}
use Rattle.job_run.specs.Course.{IsAt}
use Rattle.job_run.specs.Moves.{moves_of, read_rooms, source_moves}
use Rattle.job_run.specs.Sources.{unreadable}
use Rattle.job_run.specs.World.{World, printing}
use Rattle.job_lines.specs.Commands.{Command, build, lookup, explain, gen, publish, check}
use Rattle.job_lines.specs.Commands.{census}
use Rattle.geofeed_cmd.specs.Commands.Publish.{publishing}
use Rattle.geofeed_cmd.specs.Commands.Census.{counting}
use Rattle.geofeed_cmd.specs.Commands.Check.{checking}
use Rattle.geofeed_cmd.specs.Commands.Explain.{explaining}
use Rattle.geofeed_cmd.specs.Commands.Generate.{gen_moves, gen_start}

-- a command is refused at once, with the name that its stop line gives, or it makes these moves
-- from this world on
pub data Plan : Type 0 where
  refused : Cause → (name : List ℕ) → Plan
  planned : List Move → World → Plan

-- the world in which a job begins
abbrev pub start_of : Told → Job → World
start_of first accepted = record {
  told = first;
  session = begun_standing accepted.meta.epoch accepted.meta.name;
  text = [];
}

-- the job that a name holds, or why there is none
abbrev pub accepted : Result Job JobFault → Result Job Cause
accepted (Ok read) = Ok read
accepted (Err fault) = Err (causes.Job fault)

abbrev pub held_job : Option (List ℕ) → Result Job Cause
held_job None = Err causes.Missing
held_job (Some bytes) = accepted (job bytes)

-- the moves of a command on a job: `build` makes all; the other ones set, drop, mark and go back
-- alone, and end with a move of their own
abbrev pub moves_for : Command → List Step → List Move
moves_for (build name) steps = moves_of steps
moves_for (lookup file address) steps = []
moves_for (explain name address) steps = source_moves steps ++ shows (explaining address) ∷ []
moves_for (gen lines file) steps = []
moves_for (publish name block file) steps =
    source_moves steps ++ shows (publishing block file) ∷ []
moves_for (check name url) steps = source_moves steps ++ shows (checking url) ∷ []
moves_for (census name) steps = source_moves steps ++ shows counting ∷ []

abbrev pub job_plan : Command → Told → (name : List ℕ) → Result Job Cause → Plan
job_plan known first name (Err cause) = refused cause name
job_plan known first name (Ok read) = planned (moves_for known read.steps) (start_of first read)

-- what a command does with the job of this name
abbrev pub plan_on : Command → Told → (name : List ℕ) → Plan
plan_on known first name = job_plan known first name (held_job (map.get first.held name))

-- a lookup has no session: there are the files alone
abbrev pub alone : Told → World
alone first = record { told = first; session = begun_standing 0 []; text = [] }

-- the most bytes of a file that is looked up in
abbrev pub longest_file : ℕ
longest_file = LONGEST_FILE

-- a lookup makes one move: it shows its answer
abbrev pub answer_plan : Told → (name : List ℕ) → Result (List ℕ) LookupFault → Plan
answer_plan first name (Err fault) = refused (causes.File fault) name
answer_plan first name (Ok text) = planned (shows (printing text) ∷ []) (alone first)

-- what is found in bytes, and nothing where there are none
abbrev pub answered_in : (address : ℕ) → Told → (name : List ℕ) → Option (List ℕ) → Plan
answered_in address first name None = refused causes.Missing name
answered_in address first name (Some bytes) = answer_plan first name (answer bytes address)

abbrev pub unless_unreadable : Option Cause → (name : List ℕ) → Plan → Plan
unless_unreadable (Some cause) name plan = refused cause name
unless_unreadable None name plan = plan

abbrev pub lookup_plan : Told → (name : List ℕ) → (address : ℕ) → Option (List ℕ) → Plan
lookup_plan first name address held =
    unless_unreadable (unreadable longest_file held) name (answered_in address first name held)

-- words that are no command are refused
abbrev pub no_plan : Plan
no_plan = refused causes.Words []

abbrev pub plan_of : Told → Option Command → Plan
plan_of first None = no_plan
plan_of first (Some (build name)) = plan_on (build name) first name
plan_of first (Some (lookup name address)) =
    lookup_plan first name address (map.get first.held name)
plan_of first (Some (explain name address)) = plan_on (explain name address) first name
plan_of first (Some (gen lines file)) = planned (gen_moves lines file) (gen_start first)
plan_of first (Some (publish name block file)) = plan_on (publish name block file) first name
plan_of first (Some (check name url)) = plan_on (check name url) first name
plan_of first (Some (census name)) = plan_on (census name) first name

-- whether words are a command
abbrev pub is_command : Option Command → Bool
is_command None = false
is_command (Some (build name)) = true
is_command (Some (lookup name address)) = true
is_command (Some (explain name address)) = true
is_command (Some (gen lines file)) = true
is_command (Some (publish name block file)) = true
is_command (Some (check name url)) = true
is_command (Some (census name)) = true

-- the job that a command does, if it does one
abbrev pub job_of : Command → Option (List ℕ)
job_of (build name) = Some name
job_of (lookup name address) = None
job_of (explain name address) = Some name
job_of (gen lines file) = None
job_of (publish name block file) = Some name
job_of (check name url) = Some name
job_of (census name) = Some name

-- the file that a command reads first, if it reads one
abbrev pub file_first : Command → Option (List ℕ)
file_first (build name) = Some name
file_first (lookup name address) = Some name
file_first (explain name address) = Some name
file_first (gen lines file) = None
file_first (publish name block file) = Some name
file_first (check name url) = Some name
file_first (census name) = Some name

-- whether a command reads files of the folder
abbrev pub reads_folder : Option Command → Bool
reads_folder None = false
reads_folder (Some (build name)) = true
reads_folder (Some (lookup name address)) = true
reads_folder (Some (explain name address)) = true
reads_folder (Some (gen lines file)) = false
reads_folder (Some (publish name block file)) = true
reads_folder (Some (check name url)) = true
reads_folder (Some (census name)) = true

-- whether a command may put files, and whether it may take steps
abbrev pub puts_files : Option Command → Bool
puts_files None = false
puts_files (Some (build name)) = true
puts_files (Some (lookup name address)) = false
puts_files (Some (explain name address)) = false
puts_files (Some (gen lines file)) = true
puts_files (Some (publish name block file)) = true
puts_files (Some (check name url)) = false
puts_files (Some (census name)) = false

abbrev pub takes_steps : Option Command → Bool
takes_steps None = false
takes_steps (Some (build name)) = true
takes_steps (Some (lookup name address)) = false
takes_steps (Some (explain name address)) = false
takes_steps (Some (gen lines file)) = true
takes_steps (Some (publish name block file)) = true
takes_steps (Some (check name url)) = false
takes_steps (Some (census name)) = true

-- the most bytes that the reads of a command give: those that a file may have, or one more piece
abbrev pub job_room : Result Job Cause → ℕ
job_room (Err cause) = 1114112
job_room (Ok read) = 1114112 + read_rooms read.steps

abbrev pub room_of : Told → Option Command → ℕ
room_of first None = 0
room_of first (Some (build name)) = job_room (held_job (map.get first.held name))
room_of first (Some (lookup name address)) = longest_file + PIECE
room_of first (Some (explain name address)) = job_room (held_job (map.get first.held name))
room_of first (Some (gen lines file)) = 0
room_of first (Some (publish name block file)) = job_room (held_job (map.get first.held name))
room_of first (Some (check name url)) = job_room (held_job (map.get first.held name))
room_of first (Some (census name)) = job_room (held_job (map.get first.held name))

-- a command reaches this move in this world: all moves before it can be made
pub record Reaches (command : Option Command) (first : Told) (move : Move)
    (world : World) : Type 0 where
  pub moves : List Move
  pub start : World
  pub count : ℕ
  pub plan : plan_of first command ≡ planned moves start
  pub there : IsAt moves start count move world
