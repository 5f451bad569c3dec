use Rattle.std.proofs.Common.{◌++◌, List, Option, subst, sym}
use Rattle.std.proofs.lemmas.List.{append-nil}
use Rattle.geo_addr.specs.Ranges.{Ends}
use Rattle.geo_terms.specs.SourceForm.{FeedParts}
use Rattle.geo_terms.specs.Sources.{entries_in}
use Rattle.cut_segments.proofs.CutLemmas.{gathered}
use Rattle.cut_segments.specs.CutPoints.{AreCutsInside}
use Rattle.precedence.proofs.FeedLemmas.{entry_ranges}
use Rattle.precedence.proofs.points.push_feed_inside.Goals as goal

pub push_inside-requires-clause-ascending : goal.push_inside-requires-clause-ascending
push_inside-requires-clause-ascending c = c.cuts.ensures.ascending

pub returns-in_ok-push_inside : goal.returns-in_ok-push_inside
returns-in_ok-push_inside c before h =
    subst (λ (o : Option FeedParts). AreCutsInside (before ++ entry_ranges (entries_in o))
    c.args.bounds.now c.push_inside.new.found.items) c.in-Some.ensures
    (gathered before (entry_ranges c.in-Some.feed.now.entries) c.args.bounds.now c.cuts.result.now
    c.args.cuts.now.items c.push_inside.new.found.items h c.cuts.ensures
    c.in_ok-push_inside.ensures)

pub returns-in_default : goal.returns-in_default
returns-in_default c before h =
    subst (λ (o : Option FeedParts). AreCutsInside (before ++ entry_ranges (entries_in o))
    c.args.bounds.now c.args.cuts.now.items) c.in_default.ensures
    (subst (λ (rs : List Ends). AreCutsInside rs c.args.bounds.now c.args.cuts.now.items)
    (sym (append-nil before)) h)
