use Rattle.std.proofs.Common.{◌≡◌, ◌++◌, drop}
use Rattle.std.specs.List.{flat_map}
use Rattle.geo_terms.specs.Report.{named}
use Rattle.geo_terms.specs.declared.note.Origin.TheVariants.{Feed}
use Rattle.precedence.proofs.notes.push_feed_notes.Given as goal

-- the notes of the sources that are left follow what was made
abbrev pub invariant-loop-ready : goal.invariant-loop-ready
invariant-loop-ready l =
    l.notes.items
    ++ flat_map (λ f. named (Feed f.url) f.notes) (drop l.ready-index l.feeds)
    ≡ l.fn.notes.items ++ flat_map (λ f. named (Feed f.url) f.notes) l.feeds
