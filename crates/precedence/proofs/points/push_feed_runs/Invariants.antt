use Rattle.std.proofs.Common.{◌++◌, ◌∷◌, [], List, take}
use Rattle.geo_addr.specs.Ranges.{Ends}
use Rattle.cut_segments.specs.CutPoints.{AreCutsInside}
use Rattle.precedence.proofs.FeedLemmas.{all_entries, entry_ranges}
use Rattle.precedence.specs.Runs.{points_of}
use Rattle.precedence.proofs.points.push_feed_runs.Given as goal

-- the cut points of the feeds so far are gathered beside those that were there
abbrev pub invariant-loop-feed : goal.invariant-loop-feed
invariant-loop-feed l =
    (before : List Ends) → AreCutsInside before (l.range ∷ []) (points_of l.fn.runs.items)
    → AreCutsInside (before ++ entry_ranges (all_entries (take l.feed-index l.feeds)))
    (l.range ∷ []) (points_of l.runs.items)
