use Rattle.std.proofs.Common.{◌≡◌, ◌++◌, map, drop}
use Rattle.std.specs.Arc.{arc_value}
use Rattle.std.specs.List.{flat_map}
use Rattle.geo_terms.specs.Report.{named}
use Rattle.geo_terms.specs.declared.note.Origin.TheVariants.{Rpsl}
use Rattle.precedence.proofs.notes.push_dump_notes.Given as goal

-- the notes of the sources that are left follow what was made
abbrev pub invariant-loop-dump : goal.invariant-loop-dump
invariant-loop-dump l =
    l.notes.items
    ++ flat_map (λ d. named (Rpsl d.slot) d.notes) (map arc_value (drop l.dump-index l.dumps))
    ≡ l.fn.notes.items ++ flat_map (λ d. named (Rpsl d.slot) d.notes) (map arc_value l.dumps)
