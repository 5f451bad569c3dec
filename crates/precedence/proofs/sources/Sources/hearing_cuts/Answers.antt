use Rattle.std.proofs.Common.{◌++◌, List, map, subst, sym}
use Rattle.std.proofs.lemmas.Result.{IfOk-weaker}
use Rattle.geo_addr.specs.Ranges.{AreCuts, Ends}
use Rattle.geo_terms.specs.Sources.{entries_in, feed_of, references}
use Rattle.geo_terms.specs.declared.statement.Reference.{Reference}
use Rattle.source_changes.specs.CutPoints.{AreCutsOf, whole}
use Rattle.precedence.proofs.FeedLemmas.{entry_ranges}
use Rattle.precedence.proofs.sources.Sources.hearing_cuts.Goals as goal

pub hearing_points-requires-clause-more : goal.hearing_points-requires-clause-more
hearing_points-requires-clause-more c =
    (subst (AreCutsOf c.args.more.now) (sym c.as_slice.ensures.value)
    c.in_ok-more.ensures).ascending

pub returns-clause-exact : goal.returns-clause-exact
returns-clause-exact c =
    let refs : List Ends = map (λ (r : Reference). r.range) (references c.args.self.now) in
    let ents : List Ends = entry_ranges (entries_in (feed_of c.args.self.now c.args.url.now)) in
    IfOk-weaker c.hearing_points.result (λ points. (ranges : List Ends)
    → AreCutsOf ranges c.as_slice.result.now
    → AreCuts (refs ++ (ents ++ ranges)) whole points.items)
    (λ points. AreCuts (refs ++ (ents ++ c.args.more.now)) whole points.items)
    (λ points exact. exact c.args.more.now (subst (AreCutsOf c.args.more.now)
    (sym c.as_slice.ensures.value) c.in_ok-more.ensures)) c.hearing_points.ensures.exact
