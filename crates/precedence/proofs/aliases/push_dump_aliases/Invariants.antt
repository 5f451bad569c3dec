use Rattle.std.proofs.Common.{◌≡◌, ◌++◌, map, drop}
use Rattle.std.specs.Arc.{arc_value}
use Rattle.std.specs.List.{flat_map}
use Rattle.geo_terms.specs.Report.{alias_note}
use Rattle.geo_terms.specs.declared.note.Origin.{Origin}
use Rattle.precedence.proofs.aliases.push_dump_aliases.Given as goal

abbrev pub invariant-loop-dump : goal.invariant-loop-dump
invariant-loop-dump l =
    l.notes.items ++ flat_map (λ r. alias_note (Origin.Rpsl r.slot) r.range r.line)
    (flat_map (λ d. d.refs) (map arc_value (drop l.dump-index l.dumps)))
    ≡ l.fn.notes.items ++ flat_map (λ r. alias_note (Origin.Rpsl r.slot) r.range r.line)
    (flat_map (λ d. d.refs) (map arc_value l.dumps))
