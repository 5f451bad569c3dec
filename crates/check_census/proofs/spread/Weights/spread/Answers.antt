-- At the end nothing waits.
use Rattle.std.proofs.Common.{refl, ◌∙◌}
use Rattle.check_census.specs.Spread.{every}
use Rattle.check_census.proofs.PassLemmas.{all_ended}
use Rattle.check_census.proofs.spread.Weights.spread.Goals as goal

pub returns-clause-ended : goal.returns-clause-ended
returns-clause-ended c test plain =
    all_ended c.args.store.now c.loop-number.self c.loop-number.number c.loop-number-test.false
    c.loop-number.invariant.gone test ∙ c.loop-number.invariant.same test plain

pub returns-clause-few : goal.returns-clause-few
returns-clause-few c =
    all_ended c.args.store.now c.loop-number.self c.loop-number.number c.loop-number-test.false
    c.loop-number.invariant.gone every ∙ c.loop-number.invariant.same every (λ k le. refl)
