use Rattle.std.proofs.Common.{◌≡◌, ◌++◌, map, drop}
use Rattle.std.specs.Arc.{arc_value}
use Rattle.std.specs.List.{flat_map}
use Rattle.geo_terms.specs.Report.{alias_note}
use Rattle.geo_terms.specs.declared.note.Origin.{Origin}
use Rattle.precedence.proofs.aliases.push_file_aliases.Given as goal

abbrev pub invariant-loop-file : goal.invariant-loop-file
invariant-loop-file l =
    l.notes.items ++ flat_map (λ d. alias_note (Origin.Stats d.slot) d.range d.line)
    (flat_map (λ t. t.rows) (map arc_value (drop l.file-index l.files)))
    ≡ l.fn.notes.items ++ flat_map (λ d. alias_note (Origin.Stats d.slot) d.range d.line)
    (flat_map (λ t. t.rows) (map arc_value l.files))
