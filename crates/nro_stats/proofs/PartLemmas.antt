-- What is read of parts is what their lines say.
use Rattle.std.proofs.Common.{◌≡◌, ℕ, List}
use Rattle.std.specs.List.{AllZip, flat_map}
use Rattle.line_parts.specs.declared.part.LinePart.{LinePart}
use Rattle.line_parts.proofs.GatherLemmas.{by_parts}
use Rattle.nro_stats.specs.File.{note_of, row_of}
use Rattle.nro_stats.specs.Parts.{IsPartRead, found_notes, found_rows, notes_of, rows_of}
use Rattle.nro_stats.specs.declared.read.Gathered.{Gathered}

module _ (slot : List ℕ) (parts : List LinePart) (found : List Gathered)
    (read : AllZip (IsPartRead slot) parts found) where
  pub rows_by_parts : flat_map found_rows found ≡ rows_of slot parts
  rows_by_parts =
      by_parts (row_of slot) found_rows (IsPartRead slot) parts found (λ p b said. said.0) read

  pub notes_by_parts : flat_map found_notes found ≡ notes_of parts
  notes_by_parts =
      by_parts note_of found_notes (IsPartRead slot) parts found (λ p b said. said.1) read
