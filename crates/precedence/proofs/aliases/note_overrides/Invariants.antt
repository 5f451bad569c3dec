use Rattle.std.proofs.Common.{◌≡◌, ◌++◌, drop}
use Rattle.std.specs.List.{flat_map}
use Rattle.geo_terms.specs.Report.{alias_note}
use Rattle.geo_terms.specs.declared.note.Origin.{Origin}
use Rattle.precedence.proofs.aliases.note_overrides.Given as goal

abbrev pub invariant-loop-row : goal.invariant-loop-row
invariant-loop-row l =
    l.notes.items ++ flat_map (λ o. alias_note Origin.Overrides o.range o.line) (drop l.row-index
    l.rows) ≡ l.fn.notes.items ++ flat_map (λ o. alias_note Origin.Overrides o.range o.line) l.rows
