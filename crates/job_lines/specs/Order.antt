-- The forms that the lines of a job say, in line order, and which may stand behind which.
use Rattle.std.specs.Prelude.{◌≡◌, ◌<◌, ◌&&◌, ◌||◌, ℕ, Bool, true, false, not, List, [], ◌∷◌, ◌++◌}
use Rattle.std.specs.Prelude.{take, slice_get, map, filter_map, Option, None, Some, is_some}
use Rattle.std.specs.List.{list_all, list_any}
use Rattle.geo_addr.specs.Lines.{numbered_lines}
use Rattle.job_lines.specs.declared.form.Form.{Form}
use Rattle.job_lines.specs.declared.form.Form.TheVariants.{Epoch, TypeName, Pieces, Do}
use Rattle.job_lines.specs.declared.job.Job.{Job}
use Rattle.job_lines.specs.declared.job.Step.{Step}
use Rattle.job_lines.specs.Forms.{form_of}
use Rattle.job_lines.specs.Said.{form_said}
use Rattle.job_lines.specs.Words.{is_passed_over, words}

-- the forms that lines say, in line order
abbrev pub said : (ℕ × List ℕ) → Option Form
said line = form_said line.1

abbrev pub forms : List (ℕ × List ℕ) → List Form
forms lines = filter_map said lines

-- whether a line is passed over or fits a form
abbrev pub fits : (ℕ × List ℕ) → Bool
fits line = is_passed_over (words line.1) || is_some (form_of (words line.1))

-- what a form gives: the epoch, the database type, the number of pieces, an act
abbrev pub is_epoch : Form → Bool
is_epoch (Epoch epoch) = true
is_epoch (TypeName name) = false
is_epoch (Pieces n) = false
is_epoch (Do act) = false

abbrev pub is_type : Form → Bool
is_type (Epoch epoch) = false
is_type (TypeName name) = true
is_type (Pieces n) = false
is_type (Do act) = false

abbrev pub is_pieces : Form → Bool
is_pieces (Epoch epoch) = false
is_pieces (TypeName name) = false
is_pieces (Pieces n) = true
is_pieces (Do act) = false

abbrev pub is_act : Form → Bool
is_act (Epoch epoch) = false
is_act (TypeName name) = false
is_act (Pieces n) = false
is_act (Do act) = true

abbrev pub is_setting : Form → Bool
is_setting form = is_type form || is_pieces form

-- whether no form stands before
abbrev pub is_first : List Form → Bool
is_first [] = true
is_first (form ∷ more) = false

-- whether the epoch stands before, and no act
abbrev pub takes_setting : List Form → Bool
takes_setting before = list_any is_epoch before && not (list_any is_act before)

-- whether a form may stand behind these forms: the epoch is the first and stands before each
-- other one; the type and the number of pieces are given once each, before each act
abbrev pub may_stand : List Form → Form → Bool
may_stand before (Epoch epoch) = is_first before
may_stand before (TypeName name) = takes_setting before && not (list_any is_type before)
may_stand before (Pieces n) = takes_setting before && not (list_any is_pieces before)
may_stand before (Do act) = list_any is_epoch before

-- whether the words of a line say what cannot stand behind these forms:
-- no form, or one that may not stand there
abbrev pub may_not_stand : List Form → Option Form → Bool
may_not_stand before None = true
may_not_stand before (Some form) = not (may_stand before form)

abbrev pub is_refused : List Form → List ℕ → Bool
is_refused before text =
    not (is_passed_over (words text)) && may_not_stand before (form_of (words text))

-- the line with this number is refused behind the forms of the lines before it,
-- and none of those is
pub record IsFirstRefused (lines : List (ℕ × List ℕ)) (number : ℕ) : Type 0 where
  pub at : ℕ
  pub text : List ℕ
  pub there : slice_get lines at ≡ Some (number, text)
  pub refused : is_refused (forms (take at lines)) text ≡ true
  pub first : (index : ℕ) (line : ℕ × List ℕ) → index < at → slice_get lines index ≡ Some line
      → is_refused (forms (take index lines)) line.1 ≡ false

-- the lines of a text say, in order: the epoch of a job, its settings, and its steps
pub record IsInOrder (bytes : List ℕ) (j : Job) : Type 0 where
  pub fit : list_all fits (numbered_lines bytes) ≡ true
  pub settings : List Form
  pub are : list_all is_setting settings ≡ true
  pub order : forms (numbered_lines bytes)
      ≡ Epoch j.meta.epoch ∷ (settings ++ map (λ (step : Step). Do step.act) j.steps)
