-- What always holds of an answer: which counts rose, and what stands after it.
use Rattle.std.specs.Prelude.{◌≡◌, ◌≢◌, ◌⊎◌, ◌≤◌, ◌+◌, ℕ, false, List, Option, Some}
use Rattle.geo_outside.specs.Count.{Rose}
use Rattle.geo_outside.specs.Files.{Told}
use Rattle.geo_outside.specs.declared.folder.Folder as folders
use Rattle.geo_outside.specs.declared.sink.Sink as sinks
use Rattle.geofeed_cmd.specs.declared.status.Status.{Status}
use Rattle.geofeed_cmd.specs.declared.status.Status.TheVariants as statuses
use Rattle.job_lines.specs.Commands.{Command, gen}
use Rattle.job_run.specs.Seen.{Seen, seen}
use Rattle.geofeed_cmd.specs.Run.Answers.{Comes, EndsGenerated}
use Rattle.geofeed_cmd.specs.Run.Ending.{ending}
use Rattle.geofeed_cmd.specs.Run.Feeds.{PublishesFeed}
use Rattle.geofeed_cmd.specs.Run.Plans.{is_command, puts_files, reads_folder, room_of, takes_steps}

-- what the outside tells at a moment: the folder itself, what is seen, and the folder's counts
pub record Around (F : Type 0) : Type 0 where
  pub folder : F
  pub seen : Seen
  pub read_faults : ℕ
  pub put_faults : ℕ
  pub misses : ℕ
  pub given : ℕ

abbrev pub around : {F O : Type 0} → folders.Ghosts F → sinks.Ghosts O
    → (folder : F) → (out : O) → (steps : ℕ) → Around F
around f o folder out steps = record {
  folder = folder;
  seen = seen (f.told folder) (o.written out) (o.faults out) steps;
  read_faults = f.read_faults folder;
  put_faults = f.put_faults folder;
  misses = f.misses folder;
  given = f.given folder;
}

-- what there is at an answer, by what the folder first tells
abbrev pub ComesOut : {F : Type 0} → Status → Option Command → (old new : Around F) → Type 0
ComesOut result command old new =
    (first : Told) → old.seen.told ≡ Some first
    → Comes result command first old.seen new.seen old.put_faults new.put_faults

-- what holds of an answer to a command whatever the folder and the sink tell
pub record Ends {F : Type 0} (result : Status) (command : Option Command)
    (old new : Around F) : Type 0 where
  pub words : result ≡ statuses.Words → is_command command ≡ false
  pub none : is_command command ≡ false → (result ≡ statuses.Words) ⊎ (result ≡ statuses.Memory)
  pub untouched : is_command command ≡ false → new.folder ≡ old.folder
  pub unput : puts_files command ≡ false → new.seen.told ≡ old.seen.told
  pub still : takes_steps command ≡ false → new.seen.steps ≡ old.seen.steps
  pub given : (first : Told) → old.seen.told ≡ Some first
      → new.given ≤ old.given + room_of first command
  pub read : result ≡ statuses.ReadFault → Rose old.read_faults new.read_faults
  pub missing : result ≡ statuses.Missing → Rose old.misses new.misses
  pub unread : reads_folder command ≡ false
      → (result ≢ statuses.ReadFault) × (new.given ≤ old.given)
  pub write : result ≡ statuses.WriteFault → Rose old.put_faults new.put_faults
      ⊎ Rose old.seen.print_faults new.seen.print_faults
  pub unprinted : puts_files command ≡ false → result ≡ statuses.WriteFault
      → Rose old.seen.print_faults new.seen.print_faults

-- what holds of an answer to `gen` whatever the folder and the sink tell: how it may end, and that
-- no more steps are taken than where the folder tells any files
pub record Generates (result : Status) (command : Option Command) (old new : Seen) : Type 0 where
  pub ends : (lines : ℕ) (file : List ℕ) → command ≡ Some (gen lines file) → EndsGenerated result
  pub bounded : (lines : ℕ) (file : List ℕ) (any : Told) → command ≡ Some (gen lines file)
      → new.steps ≤ old.steps + (ending any command).spent

-- all that holds of an answer to a command
pub record Concludes {F : Type 0} (result : Status) (command : Option Command)
    (old new : Around F) : Type 0 where
  pub comes : ComesOut result command old new
  pub published : (first : Told) → old.seen.told ≡ Some first → result ≡ statuses.Done
      → PublishesFeed command first new.seen.told
  pub generates : Generates result command old.seen new.seen
  pub ends : Ends result command old new

-- what holds of an answer behind a job that was read
pub record Signs {F : Type 0} (result : Status) (old new : Around F) : Type 0 where
  pub not_words : result ≢ statuses.Words
  pub read : result ≡ statuses.ReadFault → Rose old.read_faults new.read_faults
  pub missing : result ≡ statuses.Missing → Rose old.misses new.misses
  pub write : result ≡ statuses.WriteFault → Rose old.put_faults new.put_faults
      ⊎ Rose old.seen.print_faults new.seen.print_faults
