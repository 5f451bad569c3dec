use Rattle.std.proofs.Common.{◌∙◌}
use Rattle.authority.proofs.LoopLemmas.{copied_more}
use Rattle.authority.proofs.speakers.push_refs.Goals as goal

pub loop-reference-preserved : goal.loop-reference-preserved
loop-reference-preserved c =
    copied_more c.args.more.now c.loop-reference.reference-index c.reference-item.result
    c.loop-reference-test.true c.args.refs.now.items c.loop-reference.refs.items
    c.push.new.self.items c.in_ok-copied.field-0 c.loop-reference.invariant
    c.in_ok-push.ensures.items (c.in_ok-copied.ensures ∙ c.reference-item.is)
