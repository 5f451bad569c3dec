-- What is true of every text and of the job that it is.
use Rattle.std.specs.Prelude.{◌≡◌, ◌↔◌, ◌≤◌, ℕ, Bool, true, List, length, Ok, Err}
use Rattle.std.specs.List.{list_all}
use Rattle.std.specs.Str.{is_utf8}
use Rattle.geo_addr.specs.Lines.{numbered_lines}
use Rattle.job_lines.specs.declared.job.Job.{Job}
use Rattle.job_lines.specs.declared.fault.JobFault.TheVariants.{Epoch, Line}
use Rattle.job_lines.specs.Job.{job, longest}
use Rattle.job_lines.specs.Order.{IsFirstRefused, IsInOrder}
use Rattle.job_lines.specs.Said.{IsWithinLimits, SaysItsLines}
use Rattle.job_lines.specs.Words.{is_passed_over, words}

-- an accepted job says what its lines say
abbrev pub AcceptedJobSaysItsLines : Type 0
AcceptedJobSaysItsLines = (bytes : List ℕ) (j : Job) → job bytes ≡ Ok j → SaysItsLines bytes j

-- the name of an accepted job's files, and its number of pieces, are within their limits
abbrev pub AcceptedJobIsWithinLimits : Type 0
AcceptedJobIsWithinLimits = (bytes : List ℕ) (j : Job) → job bytes ≡ Ok j → IsWithinLimits j

-- the first line that says something gives the epoch, and no other does;
-- the type and the number of pieces stand before every step
abbrev pub AcceptedJobIsInOrder : Type 0
AcceptedJobIsInOrder = (bytes : List ℕ) (j : Job) → job bytes ≡ Ok j → IsInOrder bytes j

-- a text is refused at a line exactly where it is no longer than a job may be, is UTF-8, and that
-- line is the first that fits no form or stands where it may not
abbrev pub RefusedLineIsFirst : Type 0
RefusedLineIsFirst = (bytes : List ℕ) (number : ℕ) →
    (job bytes ≡ Err (Line number)) ↔ ((length bytes ≤ longest) × (is_utf8 bytes ≡ true)
    × IsFirstRefused (numbered_lines bytes) number)

abbrev pub passes_over : (ℕ × List ℕ) → Bool
passes_over line = is_passed_over (words line.1)

-- a text has no epoch exactly where it is no longer than a job may be, is UTF-8,
-- and has only lines that are passed over
abbrev pub OnlyPassedLinesHaveNoEpoch : Type 0
OnlyPassedLinesHaveNoEpoch = (bytes : List ℕ) →
    (job bytes ≡ Err Epoch) ↔ ((length bytes ≤ longest) × (is_utf8 bytes ≡ true)
    × (list_all passes_over (numbered_lines bytes) ≡ true))
