-- The form that the words of a line fit: a setting of the whole job, or an act.
use Rattle.std.specs.Prelude.{ℕ, ◌^◌, ◌&&◌, ◌==◌, Bool, false, not, nat_lt, nat_le, List, [], ◌∷◌}
use Rattle.std.specs.Prelude.{codes, Option, None, Some, option_and_then, option_map, if◌then◌else◌}
use Rattle.geo_addr.specs.Decimals.{decimal}
use Rattle.geo_terms.specs.PlaceForm.{same_text}
use Rattle.job_lines.specs.declared.form.Form.{Form}
use Rattle.job_lines.specs.declared.form.Form.TheVariants.{Epoch, TypeName, Pieces, Do}
use Rattle.job_lines.specs.declared.form.TheConstants.{MOST_PIECES}
use Rattle.job_lines.specs.Acts.{act_by}
use Rattle.job_lines.specs.Names.{is_type_name}
use Rattle.job_lines.specs.Words.{only}

-- `epoch N`: one to twenty digits, and a number below 2 ^ 64
abbrev pub epoch_of : Option ℕ → Option Form
epoch_of None = None
epoch_of (Some n) = if nat_lt n (2 ^ 64) then Some (Epoch n) else None

abbrev pub epoch_form : List ℕ → Option Form
epoch_form digits = epoch_of (decimal 1 20 digits)

-- `type NAME`
abbrev pub type_form : List ℕ → Option Form
type_form name = if is_type_name name then Some (TypeName name) else None

-- `pieces N`: a number from 1 to the most, without leading zeros
abbrev pub begins_plain : List ℕ → Bool
begins_plain [] = false
begins_plain (b ∷ bs) = not (b == 48)

abbrev pub pieces_of : Option ℕ → Option Form
pieces_of None = None
pieces_of (Some n) = if nat_le 1 n && nat_le n MOST_PIECES then Some (Pieces n) else None

abbrev pub pieces_form : List ℕ → Option Form
pieces_form digits = if begins_plain digits then pieces_of (decimal 1 2 digits) else None

-- what stands behind the first word of a setting
abbrev pub epoch_line : List (List ℕ) → Option Form
epoch_line rest = option_and_then epoch_form (only rest)

abbrev pub type_line : List (List ℕ) → Option Form
type_line rest = option_and_then type_form (only rest)

abbrev pub pieces_line : List (List ℕ) → Option Form
pieces_line rest = option_and_then pieces_form (only rest)

-- the form of a line by its first word
unfoldable pub form_by : (word : List ℕ) → (rest : List (List ℕ)) → Option Form
form_by word rest =
    if same_text word (codes "epoch") then epoch_line rest
    else (if same_text word (codes "type") then type_line rest
    else (if same_text word (codes "pieces") then pieces_line rest
    else option_map Do (act_by word rest)))

-- the form that words fit, if they fit one
abbrev pub form_of : List (List ℕ) → Option Form
form_of [] = None
form_of (word ∷ rest) = form_by word rest
