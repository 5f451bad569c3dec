-- What is read of a part of a feed.
use Rattle.std.specs.Prelude.{◌≡◌, ℕ, List, filter_map}
use Rattle.std.specs.List.{flat_map}
use Rattle.geo_terms.specs.declared.statement.Entry.{Entry}
use Rattle.geo_terms.specs.declared.note.LineNote.{LineNote}
use Rattle.line_parts.specs.Parts.{lines_in}
use Rattle.line_parts.specs.declared.part.LinePart.{LinePart}
use Rattle.feed_csv.specs.File.{accepted, entry_of, fault_of, refused}
use Rattle.feed_csv.specs.declared.read.Gathered.{Gathered}

-- the lines of a part that pass the line rules, and the faults of the others
abbrev pub accepted_in : LinePart → List Entry
accepted_in part = filter_map entry_of (lines_in part)

abbrev pub refused_in : LinePart → List LineNote
refused_in part = filter_map fault_of (lines_in part)

-- those of some parts
abbrev pub accepted_of : List LinePart → List Entry
accepted_of parts = filter_map entry_of (flat_map lines_in parts)

abbrev pub refused_of : List LinePart → List LineNote
refused_of parts = filter_map fault_of (flat_map lines_in parts)

-- what was found is what the lines of a part say by themselves
abbrev pub IsPartRead : LinePart → Gathered → Type 0
IsPartRead part found =
    (found.entries.items ≡ accepted_in part) × (found.faults.items ≡ refused_in part)

-- what was found is what the lines of a file say by themselves
abbrev pub IsFileRead : List ℕ → Gathered → Type 0
IsFileRead file found =
    (found.entries.items ≡ accepted file) × (found.faults.items ≡ refused file)

-- what was found, as lists
abbrev pub found_entries : Gathered → List Entry
found_entries found = found.entries.items

abbrev pub found_faults : Gathered → List LineNote
found_faults found = found.faults.items
