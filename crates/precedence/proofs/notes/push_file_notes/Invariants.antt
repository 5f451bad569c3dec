use Rattle.std.proofs.Common.{◌≡◌, ◌++◌, map, drop}
use Rattle.std.specs.Arc.{arc_value}
use Rattle.std.specs.List.{flat_map}
use Rattle.geo_terms.specs.Report.{named}
use Rattle.geo_terms.specs.declared.note.Origin.TheVariants.{Stats}
use Rattle.precedence.proofs.notes.push_file_notes.Given as goal

-- the notes of the sources that are left follow what was made
abbrev pub invariant-loop-file : goal.invariant-loop-file
invariant-loop-file l =
    l.notes.items
    ++ flat_map (λ t. named (Stats t.slot) t.notes) (map arc_value (drop l.file-index l.files))
    ≡ l.fn.notes.items ++ flat_map (λ t. named (Stats t.slot) t.notes) (map arc_value l.files)
