-- What the lines of a job have said so far, and what may stand behind them.
use Rattle.std.specs.Prelude.{ℕ, ◌&&◌, Bool, true, false, List, [], ◌∷◌, ◌++◌, Option, None, Some}
use Rattle.std.specs.Prelude.{is_none, is_some, if◌then◌else◌}
use Rattle.job_lines.specs.declared.form.Form.{Form}
use Rattle.job_lines.specs.declared.form.Form.TheVariants.{Epoch, TypeName, Pieces, Do}
use Rattle.job_lines.specs.declared.job.Step.{Step}

-- the epoch, the database type and the number of pieces, where a line gave them,
-- and the steps in line order
pub record DraftParts : Type 0 where
  pub epoch : Option ℕ
  pub name : Option (List ℕ)
  pub pieces : Option ℕ
  pub steps : List Step

-- before the first line
abbrev pub no_lines : DraftParts
no_lines = record { epoch = None; name = None; pieces = None; steps = [] }

abbrev pub has_no_steps : List Step → Bool
has_no_steps [] = true
has_no_steps (step ∷ steps) = false

-- whether a setting may stand here: behind the epoch, and before each step
abbrev pub takes_settings : DraftParts → Bool
takes_settings draft = is_some draft.epoch && has_no_steps draft.steps

-- the draft with one more line, where the line's form may stand there:
-- the epoch stands first and only there; the type and the number of pieces stand
-- before any step, and once each
abbrev pub with_form : ℕ → Form → DraftParts → Option DraftParts
with_form line (Epoch n) draft =
    if is_none draft.epoch then Some (record draft { epoch = Some n }) else None
with_form line (TypeName name) draft =
    if takes_settings draft && is_none draft.name
    then Some (record draft { name = Some name }) else None
with_form line (Pieces n) draft =
    if takes_settings draft && is_none draft.pieces
    then Some (record draft { pieces = Some n }) else None
with_form line (Do act) draft =
    if is_some draft.epoch
    then Some (record draft { steps = draft.steps ++ (record { line = line; act = act } ∷ []) })
    else None
