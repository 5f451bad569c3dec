-- One entry more, with the notes before it.
use Rattle.std.proofs.Common.{arith}
use Rattle.check_census.proofs.JudgingLemmas.{before-short, merged_step, read_at}
use Rattle.check_census.proofs.judging.merged.Goals as goal

pub split_at-requires : goal.split_at-requires
split_at-requires c =
    let count = c.count_before.ensures in
    let short = before-short c.index-entries-index.result.line c.loop-index.left.now in
    omega arith

pub loop-index-preserved : goal.loop-index-preserved
loop-index-preserved c =
    merged_step c.args.sources.now c.args.url.now c.args.entries.now c.loop-index.left.now
    c.loop-index.index c.count_before.result c.index-entries-index.result
    c.loop-index.verdicts.items c.push_notes.new.verdicts.items
    c.push.new.self.items _ c.split_at.result.0.now c.split_at.result.1.now
    c.in_ok-verdict.verdict
    (read_at c.args.entries.now c.loop-index.index c.index-entries-index.result
    c.loop-index-test.true c.index-entries-index.is) c.count_before.ensures
    c.split_at.ensures.front c.split_at.ensures.back
    c.in_ok-push_notes.ensures c.in_ok-push.ensures.items c.in_ok-verdict.ensures
    c.loop-index.invariant
