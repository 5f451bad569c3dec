use Rattle.std.proofs.Common.{◌≡◌, ◌++◌, drop}
use Rattle.std.specs.List.{flat_map}
use Rattle.geo_terms.specs.Report.{uncovered_in}
use Rattle.authority.proofs.notes.push_uncovered.Given as goal

-- the notes on the feeds that are left follow what was found
abbrev pub invariant-loop-ready : goal.invariant-loop-ready
invariant-loop-ready l =
    l.notes.items
    ++ flat_map (uncovered_in l.index) (drop l.ready-index l.feeds)
    ≡ l.fn.notes.items ++ flat_map (uncovered_in l.index) l.feeds
