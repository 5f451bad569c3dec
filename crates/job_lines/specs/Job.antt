-- The job that a text is.
use Rattle.std.specs.Prelude.{ℕ, nat_lt, List, [], ◌∷◌, length, codes, Option, None, Some, Result}
use Rattle.std.specs.Prelude.{Ok, Err, unwrap_or, if◌then◌else◌}
use Rattle.std.specs.Str.{is_utf8}
use Rattle.geo_addr.specs.Lines.{numbered_lines}
use Rattle.job_lines.specs.declared.draft.TheConstants.{DEFAULT_PIECES}
use Rattle.job_lines.specs.declared.form.Form.{Form}
use Rattle.job_lines.specs.declared.job.TheConstants.{LONGEST_JOB}
use Rattle.job_lines.specs.declared.job.Job.{Job}
use Rattle.job_lines.specs.declared.fault.JobFault.{JobFault}
use Rattle.job_lines.specs.declared.fault.JobFault.TheVariants.{TooLong, Utf8, Line, Epoch}
use Rattle.job_lines.specs.Drafts.{DraftParts, no_lines, with_form}
use Rattle.job_lines.specs.Forms.{form_of}
use Rattle.job_lines.specs.Words.{is_passed_over, words}

-- the most bytes of a job
abbrev pub longest : ℕ
longest = LONGEST_JOB

-- the database type and the number of pieces where no line gives them
abbrev pub default_name : List ℕ
default_name = codes "Geofeed-City"

abbrev pub default_pieces : ℕ
default_pieces = DEFAULT_PIECES

-- the draft with one more line: the same where the line is passed over,
-- and none where it fits no form or stands where it may not
abbrev pub with_fitting : ℕ → Option Form → DraftParts → Option DraftParts
with_fitting line None draft = None
with_fitting line (Some form) draft = with_form line form draft

abbrev pub with_words : ℕ → List (List ℕ) → DraftParts → Option DraftParts
with_words line said draft =
    if is_passed_over said then Some draft else with_fitting line (form_of said) draft

unfoldable pub with_line : (ℕ × List ℕ) → DraftParts → Option DraftParts
with_line line draft = with_words line.0 (words line.1) draft

-- the draft behind all lines, or the number of the first line that is refused
abbrev pub unless_refused : ℕ → Option DraftParts
    → (DraftParts → Result DraftParts JobFault) → Result DraftParts JobFault
unless_refused line None next = Err (Line line)
unless_refused line (Some draft) next = next draft

abbrev pub draft_from : List (ℕ × List ℕ) → DraftParts → Result DraftParts JobFault
draft_from [] draft = Ok draft
draft_from (line ∷ more) draft = unless_refused line.0 (with_line line draft) (draft_from more)

-- the job that a whole draft is; it has no epoch where every line was passed over
abbrev pub job_with : Option ℕ → DraftParts → Result Job JobFault
job_with None draft = Err Epoch
job_with (Some epoch) draft = Ok (record {
  meta = record { epoch = epoch; name = unwrap_or draft.name default_name };
  pieces = unwrap_or draft.pieces default_pieces;
  steps = draft.steps;
})

abbrev pub job_of : Result DraftParts JobFault → Result Job JobFault
job_of (Err fault) = Err fault
job_of (Ok draft) = job_with draft.epoch draft

-- the job that a text is, or why it is none
unfoldable pub job : List ℕ → Result Job JobFault
job bytes =
    if nat_lt longest (length bytes) then Err TooLong
    else (if is_utf8 bytes then job_of (draft_from (numbered_lines bytes) no_lines) else Err Utf8)
