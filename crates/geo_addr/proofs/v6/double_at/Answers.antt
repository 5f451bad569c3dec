use Rattle.std.proofs.Common.{sym, ◌∙◌}
use Rattle.geo_addr.proofs.PartLemmas.{rest_whole}
use Rattle.geo_addr.proofs.V6Lemmas.{double_at-past}
use Rattle.geo_addr.proofs.v6.double_at.Goals as goal

pub loop-at-preserved : goal.loop-at-preserved
loop-at-preserved c =
    sym (double_at-past c.args.text.now c.loop-at.at c.loop-at-test.true
    (sym (rw rest_whole at c.if-starts_with.ensures.value))) ∙ c.loop-at.invariant
