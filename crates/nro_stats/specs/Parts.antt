-- What is read of a part of a file.
use Rattle.std.specs.Prelude.{◌≡◌, ℕ, List, filter_map}
use Rattle.std.specs.List.{flat_map}
use Rattle.geo_terms.specs.DelegationForm.{DelegationParts}
use Rattle.geo_terms.specs.declared.note.LineNote.{LineNote}
use Rattle.line_parts.specs.Parts.{lines_in}
use Rattle.line_parts.specs.declared.part.LinePart.{LinePart}
use Rattle.nro_stats.specs.File.{note_of, row_of}
use Rattle.nro_stats.specs.declared.read.Gathered.{Gathered}

-- the delegations of the lines of a part, and the notes on them
abbrev pub rows_in : List ℕ → LinePart → List DelegationParts
rows_in slot part = filter_map (row_of slot) (lines_in part)

abbrev pub notes_in : LinePart → List LineNote
notes_in part = filter_map note_of (lines_in part)

-- those of some parts
abbrev pub rows_of : List ℕ → List LinePart → List DelegationParts
rows_of slot parts = filter_map (row_of slot) (flat_map lines_in parts)

abbrev pub notes_of : List LinePart → List LineNote
notes_of parts = filter_map note_of (flat_map lines_in parts)

-- what was found is what the lines of a part of a file in a slot say
abbrev pub IsPartRead : List ℕ → LinePart → Gathered → Type 0
IsPartRead slot part found =
    (found.rows.items ≡ rows_in slot part) × (found.notes.items ≡ notes_in part)

-- what was found, as lists
abbrev pub found_rows : Gathered → List DelegationParts
found_rows found = found.rows.items

abbrev pub found_notes : Gathered → List LineNote
found_notes found = found.notes.items
