-- What the order of a report does to a list of notes.
use Rattle.std.specs.Prelude.{List}
use Rattle.std.specs.List.Sorted.{IsPermutation, IsSorted}
use Rattle.geo_terms.specs.NoteText.{note_cmp}
use Rattle.geo_terms.specs.Report.{in_order}
use Rattle.geo_terms.specs.declared.note.Note.{Note}

-- a list of notes in order has the notes of the list, each as often, and none of them goes before
-- the one in front of it
pub record NotesAreInOrder (notes : List Note) : Type 0 where
  pub same : IsPermutation notes (in_order note_cmp notes)
  pub sorted : IsSorted note_cmp (in_order note_cmp notes)

abbrev pub ReportsAreInOrder : Type 0
ReportsAreInOrder = (notes : List Note) → NotesAreInOrder notes
