use Rattle.std.proofs.Common.{◌≡◌, ◌++◌, drop, string_bytes}
use Rattle.std.specs.List.{flat_map}
use Rattle.geo_terms.specs.NoteText.{note_line}
use Rattle.job_run.proofs.reporting.push_lines.Given as goal

-- the lines of the notes that are left follow the text as it is
abbrev pub invariant-loop-note : goal.invariant-loop-note
invariant-loop-note l =
    string_bytes l.text ++ flat_map note_line (drop l.note-index l.notes)
    ≡ string_bytes l.fn.text ++ flat_map note_line l.notes
