use Rattle.std.proofs.Common.{◌∙◌, ap}
use Rattle.geo_terms.specs.Report.{uncovered_in}
use Rattle.authority.proofs.LoopLemmas.{joined_more}
use Rattle.authority.proofs.notes.push_uncovered.Goals as goal

pub loop-ready-preserved : goal.loop-ready-preserved
loop-ready-preserved c =
    joined_more c.args.feeds.now c.loop-ready.ready-index c.ready-item.result
    c.loop-ready-test.true (uncovered_in c.args.index.now) c.loop-ready.notes.items
    c.push_uncovered_in.new.notes.items (uncovered_in c.args.index.now c.feed.result.now) _
    c.loop-ready.invariant c.in_ok-push_uncovered_in.ensures
    (ap (uncovered_in c.args.index.now) (c.feed.ensures.feed ∙ c.ready-item.is))
