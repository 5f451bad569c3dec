use Rattle.std.proofs.Common.{◌≡◌, ◌++◌, drop}
use Rattle.std.specs.List.{flat_map}
use Rattle.geo_terms.specs.Report.{alias_note}
use Rattle.geo_terms.specs.declared.note.Origin.{Origin}
use Rattle.precedence.proofs.aliases.note_references.Given as goal

abbrev pub invariant-loop-reference : goal.invariant-loop-reference
invariant-loop-reference l =
    l.notes.items ++ flat_map (λ r. alias_note (Origin.Rpsl r.slot) r.range r.line)
    (drop l.reference-index l.refs)
    ≡ l.fn.notes.items ++ flat_map (λ r. alias_note (Origin.Rpsl r.slot) r.range r.line) l.refs
