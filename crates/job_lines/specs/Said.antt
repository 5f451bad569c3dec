-- What the lines of a text say, one by one, and the job that says the same.
use Rattle.std.specs.Prelude.{◌≡◌, ◌≤◌, ℕ, List, [], ◌∷◌, filter_map, length, Option, None, Some}
use Rattle.std.specs.Prelude.{if◌then◌else◌}
use Rattle.geo_addr.specs.Lines.{numbered_lines}
use Rattle.job_lines.specs.declared.form.Form.{Form}
use Rattle.job_lines.specs.declared.form.Form.TheVariants.{Epoch, TypeName, Pieces, Do}
use Rattle.job_lines.specs.declared.job.Job.{Job}
use Rattle.job_lines.specs.declared.form.TheConstants.{MOST_PIECES}
use Rattle.job_lines.specs.declared.job.Step.{Step}
use Rattle.job_lines.specs.declared.names.TheConstants.{LONGEST_WORD}
use Rattle.job_lines.specs.Forms.{form_of}
use Rattle.job_lines.specs.Job.{default_name, default_pieces}
use Rattle.job_lines.specs.Words.{is_passed_over, words}

-- the form of a line, where it is not passed over and fits one
abbrev pub form_said : List ℕ → Option Form
form_said line = if is_passed_over (words line) then None else form_of (words line)

-- the epoch, the database type, the number of pieces and the step that a form gives
abbrev pub epoch_in : Option Form → Option ℕ
epoch_in (Some (Epoch epoch)) = Some epoch
epoch_in (Some (TypeName name)) = None
epoch_in (Some (Pieces n)) = None
epoch_in (Some (Do act)) = None
epoch_in None = None

abbrev pub name_in : Option Form → Option (List ℕ)
name_in (Some (Epoch epoch)) = None
name_in (Some (TypeName name)) = Some name
name_in (Some (Pieces n)) = None
name_in (Some (Do act)) = None
name_in None = None

abbrev pub pieces_in : Option Form → Option ℕ
pieces_in (Some (Epoch epoch)) = None
pieces_in (Some (TypeName name)) = None
pieces_in (Some (Pieces n)) = Some n
pieces_in (Some (Do act)) = None
pieces_in None = None

abbrev pub step_in : ℕ → Option Form → Option Step
step_in line (Some (Epoch epoch)) = None
step_in line (Some (TypeName name)) = None
step_in line (Some (Pieces n)) = None
step_in line (Some (Do act)) = Some (record { line = line; act = act })
step_in line None = None

-- those of a line beside its number
abbrev pub epoch_said : (ℕ × List ℕ) → Option ℕ
epoch_said line = epoch_in (form_said line.1)

abbrev pub name_said : (ℕ × List ℕ) → Option (List ℕ)
name_said line = name_in (form_said line.1)

abbrev pub pieces_said : (ℕ × List ℕ) → Option ℕ
pieces_said line = pieces_in (form_said line.1)

abbrev pub step_said : (ℕ × List ℕ) → Option Step
step_said line = step_in line.0 (form_said line.1)

-- the one member of a list, or this where it is empty
abbrev pub IsOnly : {X : Type 0} → X → X → List X → Type 0
IsOnly default x [] = x ≡ default
IsOnly default x (only ∷ []) = x ≡ only
IsOnly default x (first ∷ second ∷ more) = ⊥

-- a job says what the lines of its text say: one of them gives the epoch, one at most the type, one
-- at most the number of pieces, and each other one a step
pub record SaysItsLines (bytes : List ℕ) (j : Job) : Type 0 where
  pub epoch : filter_map epoch_said (numbered_lines bytes) ≡ j.meta.epoch ∷ []
  pub name : IsOnly default_name j.meta.name (filter_map name_said (numbered_lines bytes))
  pub pieces : IsOnly default_pieces j.pieces (filter_map pieces_said (numbered_lines bytes))
  pub steps : j.steps ≡ filter_map step_said (numbered_lines bytes)

-- the name of a job's files, and its number of pieces, are within their limits
pub record IsWithinLimits (j : Job) : Type 0 where
  pub name : length j.meta.name ≤ LONGEST_WORD
  pub some : 1 ≤ j.pieces
  pub few : j.pieces ≤ MOST_PIECES
