-- How a lookup comes out where nothing outside of it fails, case by case.
use Rattle.std.specs.Prelude.{◌≡◌, ◌≤◌, ◌<◌, ℕ, List, [], length, Option, Some, None, Ok, Err}
use Rattle.std.specs.FinMap as map
use Rattle.geo_addr.specs.Bits.{bits_of}
use Rattle.geo_outside.specs.Files.{Told}
use Rattle.mmdb_data.specs.ValueTree.{ValueTree}
use Rattle.mmdb_file.specs.Walk.{Barrier, walk}
use Rattle.geofeed_cmd.specs.declared.status.Status.{Status}
use Rattle.geofeed_cmd.specs.declared.status.Status.TheVariants as statuses
use Rattle.job_lines.specs.Commands.{lookup}
use Rattle.job_run.specs.declared.stop.Cause.TheVariants.{Missing, TooLong, File}
use Rattle.job_run.specs.declared.stop.Stop.TheVariants.{Blocked}
use Rattle.geofeed_cmd.specs.Run.Ending.{Ending, ending}
use Rattle.geofeed_cmd.specs.Run.Plans.{longest_file}
use Rattle.geofeed_cmd.specs.Run.Lines.{stop_line}
use Rattle.file_lookup.specs.Lookup.{answer_text, fault_of}

-- a lookup leaves the files as they are
abbrev pub unchanged : Told → Status → (text line : List ℕ) → Ending
unchanged first status text line =
    record { status = status; told = first; text = text; line = line; spent = 0 }

-- The file is not there, or is over its limit, or the walk through it meets a fault,
-- or leads to a value or to none.
pub record EndsByCases (first : Told) (name : List ℕ) (address : ℕ) : Type 0 where
  pub missing : map.get first.held name ≡ None → ending first (Some (lookup name address))
      ≡ unchanged first statuses.Missing [] (stop_line (Blocked Missing) 0 name)
  pub long : (file : List ℕ) → map.get first.held name ≡ Some file → longest_file < length file
      → ending first (Some (lookup name address))
      ≡ unchanged first statuses.Source [] (stop_line (Blocked TooLong) 0 name)
  pub damaged : (file : List ℕ) (barrier : Barrier) → map.get first.held name ≡ Some file
      → length file ≤ longest_file → walk file (bits_of 128 address) ≡ Err barrier
      → ending first (Some (lookup name address))
      ≡ unchanged first statuses.File [] (stop_line (Blocked (File (fault_of barrier))) 0 name)
  pub answered : (file : List ℕ) (found : Option ValueTree) → map.get first.held name ≡ Some file
      → length file ≤ longest_file → walk file (bits_of 128 address) ≡ Ok found
      → ending first (Some (lookup name address))
      ≡ unchanged first statuses.Done (answer_text found) []

abbrev pub LookupEndsByCases : Type 0
LookupEndsByCases = (first : Told) (name : List ℕ) (address : ℕ) → EndsByCases first name address
