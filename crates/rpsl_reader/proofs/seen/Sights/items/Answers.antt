use Rattle.std.proofs.Common.{arith, ◌∙◌}
use Rattle.rpsl_reader.proofs.Rows.{copy_step}
use Rattle.rpsl_reader.proofs.seen.Sights.items.Goals as goal

pub loop-index-preserved : goal.loop-index-preserved
loop-index-preserved c =
    copy_step c.args.self.now.items c.loop-index.items.items c.push.new.self.items
    c.in_ok-copy_of.field-0 c.loop-index.index
    (omega (arith, c.loop-index-test.true, c.len-index-end.ensures)) c.loop-index.invariant
    (c.in_ok-copy_of.ensures ∙ c.at.ensures c.in_ok-copy_of.field-0) c.in_ok-push.ensures.items
