-- A command as the words spoke it.
use Rattle.std.specs.Prelude.{◌≡◌, ◌≤◌, ℕ, if◌then◌else◌, Option, Some, None, option_and_then}
use Rattle.std.specs.Prelude.{Result, Ok, Err}
use Rattle.job_lines.specs.declared.line_fault.LineFault.{LineFault}
use Rattle.job_lines.specs.declared.spoken.Spoken.{Spoken}
use Rattle.job_lines.specs.declared.spoken.Spoken.TheVariants.{Build, Lookup, Explain, Gen}
use Rattle.job_lines.specs.declared.spoken.Spoken.TheVariants.{Publish, Check, Census}
use Rattle.job_lines.specs.Acts.{feed_key}
use Rattle.job_lines.specs.Commands.{Command, build, lookup, explain, gen, publish, check_key}
use Rattle.job_lines.specs.Commands.{census, is_plain}

-- the command that was spoken; the word of a URL may be none,
-- and a block may be none that has a feed
abbrev pub named : Spoken → Option Command
named (Build job) = Some (build job.now)
named (Lookup file address) = Some (lookup file.now address.0)
named (Explain job address) = Some (explain job.now address.0)
named (Gen lines file) = Some (gen lines file.now)
named (Publish job block file) =
    if is_plain block then Some (publish job.now block file.now) else None
named (Check job url) = check_key job.now (feed_key url.now)
named (Census job) = Some (census job.now)

-- the number of lines of a generated feed, where one is asked for
abbrev pub lines_said : Spoken → ℕ
lines_said (Build job) = 0
lines_said (Lookup file address) = 0
lines_said (Explain job address) = 0
lines_said (Gen lines file) = lines
lines_said (Publish job block file) = 0
lines_said (Check job url) = 0
lines_said (Census job) = 0

-- it is at most a million
abbrev pub HasFewLines : Option Spoken → Type 0
HasFewLines None = Unit {0}
HasFewLines (Some spoken) = lines_said spoken ≤ 1000000

abbrev pub spoken_by : Option Spoken → Option Command
spoken_by spoken = option_and_then named spoken

-- the words were read as this command, or were refused where they are none
abbrev pub IsRead : Result Spoken LineFault → Option Command → Type 0
IsRead (Ok spoken) command = (named spoken ≡ command) × (lines_said spoken ≤ 1000000)
IsRead (Err fault) command = command ≡ None
