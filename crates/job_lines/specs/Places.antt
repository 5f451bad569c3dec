-- Why a line that fits a form may not stand where it does.
use Rattle.std.specs.Prelude.{Bool, not, is_none, Option, None, Some, if◌then◌else◌}
use Rattle.job_lines.specs.declared.line_fault.LineFault.{LineFault}
use Rattle.job_lines.specs.declared.line_fault.LineFault.TheVariants as faults
use Rattle.job_lines.specs.Drafts.{DraftParts, has_no_steps}

-- a setting stands behind the epoch, before each step, and once
abbrev pub setting_fault : DraftParts → (given : Bool) → Option LineFault
setting_fault draft given =
    if is_none draft.epoch then Some faults.NoEpoch
    else (if not (has_no_steps draft.steps) then Some faults.Behind
    else (if given then Some faults.Twice else None))
