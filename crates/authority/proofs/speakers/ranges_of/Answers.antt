use Rattle.std.proofs.Common.{ap}
use Rattle.geo_terms.specs.declared.statement.Reference.{Reference}
use Rattle.authority.proofs.LoopLemmas.{mapped_more}
use Rattle.authority.proofs.speakers.ranges_of.Goals as goal

pub loop-reference-preserved : goal.loop-reference-preserved
loop-reference-preserved c =
    mapped_more c.args.refs.now c.loop-reference.reference-index c.reference-item.result
    c.loop-reference-test.true (λ (r : Reference). r.range) c.loop-reference.ranges.items
    c.push.new.self.items c.reference-item.result.range c.loop-reference.invariant
    c.in_ok-push.ensures.items (ap (λ (r : Reference). r.range) c.reference-item.is)
