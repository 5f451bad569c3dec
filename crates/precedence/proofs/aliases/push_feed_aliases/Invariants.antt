use Rattle.std.proofs.Common.{◌≡◌, ◌++◌, drop}
use Rattle.std.specs.List.{flat_map}
use Rattle.geo_terms.specs.Report.{alias_note}
use Rattle.geo_terms.specs.declared.note.Origin.{Origin}
use Rattle.geo_addr.specs.Ranges.{range_of_block}
use Rattle.precedence.proofs.aliases.push_feed_aliases.Given as goal

abbrev pub invariant-loop-ready : goal.invariant-loop-ready
invariant-loop-ready l =
    l.notes.items ++ flat_map (λ f. flat_map (λ e. alias_note (Origin.Feed f.url)
    (range_of_block e.block) e.line) f.entries) (drop l.ready-index l.feeds)
    ≡ l.fn.notes.items ++ flat_map (λ f. flat_map (λ e. alias_note (Origin.Feed f.url)
    (range_of_block e.block) e.line) f.entries) l.feeds
