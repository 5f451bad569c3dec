use Rattle.std.proofs.Common.{◌≡◌, ◌++◌, drop}
use Rattle.std.specs.List.{flat_map}
use Rattle.geo_addr.specs.Ranges.{range_of_block}
use Rattle.geo_terms.specs.Report.{alias_note}
use Rattle.geo_terms.specs.declared.note.Origin.{Origin}
use Rattle.precedence.proofs.aliases.note_lines.Given as goal

abbrev pub invariant-loop-entry : goal.invariant-loop-entry
invariant-loop-entry l =
    l.notes.items ++ flat_map (λ e. alias_note (Origin.Feed l.url) (range_of_block e.block) e.line)
    (drop l.entry-index l.entries)
    ≡ l.fn.notes.items
    ++ flat_map (λ e. alias_note (Origin.Feed l.url) (range_of_block e.block) e.line) l.entries
