use Rattle.std.proofs.Common.{◌++◌, ◌∷◌, [], List, sym, subst, take}
use Rattle.std.proofs.lemmas.List.{append-nil, take_all}
use Rattle.geo_addr.specs.Ranges.{Ends}
use Rattle.geo_terms.specs.SourceForm.{FeedParts}
use Rattle.cut_segments.proofs.CutLemmas.{gathered}
use Rattle.cut_segments.specs.CutPoints.{AreCutsInside}
use Rattle.precedence.proofs.FeedLemmas.{all_entries, entry_more, entry_ranges}
use Rattle.precedence.specs.Runs.{points_of}
use Rattle.precedence.proofs.points.push_feed_runs.Goals as goal

pub loop-feed-init : goal.loop-feed-init
loop-feed-init c before h =
    subst (λ (rs : List Ends). AreCutsInside rs (c.args.range ∷ [])
    (points_of c.args.runs.now.items)) (sym (append-nil before)) h

pub push_run-requires : goal.push_run-requires
push_run-requires c = c.cuts.ensures.ascending

pub loop-feed-preserved : goal.loop-feed-preserved
loop-feed-preserved c before h =
    subst (λ (rs : List Ends). AreCutsInside rs (c.args.range ∷ [])
    (points_of c.push_run.new.runs.items))
    (entry_more before c.args.feeds.now c.loop-feed.feed-index c.feed-item.result
    c.loop-feed-test.true c.feed-item.is)
    (gathered (before ++ entry_ranges (all_entries (take c.loop-feed.feed-index c.args.feeds.now)))
    (entry_ranges c.feed-item.result.entries) (c.args.range ∷ []) c.cuts.result.now
    (points_of c.loop-feed.runs.items) (points_of c.push_run.new.runs.items)
    (c.loop-feed.invariant before h) c.cuts.ensures c.in_ok-push_run.ensures)

pub returns : goal.returns
returns c before h =
    subst (λ (fs : List FeedParts). AreCutsInside (before ++ entry_ranges (all_entries fs))
    (c.args.range ∷ []) (points_of c.loop-feed.runs.items))
    (take_all c.loop-feed.feed-index c.args.feeds.now c.loop-feed-test.false)
    (c.loop-feed.invariant before h)
