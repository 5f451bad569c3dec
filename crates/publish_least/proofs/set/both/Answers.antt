use Rattle.std.proofs.Common.{ap, ◌∙◌, subst, sym}
use Rattle.std.specs.List.Sorted.{IsNonDecreasing}
use Rattle.std.proofs.lemmas.Result.{IfOk-weaker}
use Rattle.publish_least.specs.Price.{has}
use Rattle.publish_least.proofs.SetLemmas.{rises-shared, has-shared_other}
use Rattle.publish_least.proofs.set.both.Goals as goal

pub returns-then-xs-ys-clause-rises : goal.returns-then-xs-ys-clause-rises
returns-then-xs-ys-clause-rises c =
    IfOk-weaker c.common.result _ _ (λ set is. subst IsNonDecreasing (sym is)
    (rises-shared c.args.xs.now c.args.ys.now c.requires.first)) c.common.ensures

pub returns-else-xs-ys-clause-rises : goal.returns-else-xs-ys-clause-rises
returns-else-xs-ys-clause-rises c =
    IfOk-weaker c.common-else-xs-ys.result _ _ (λ set is. subst IsNonDecreasing (sym is)
    (rises-shared c.args.ys.now c.args.xs.now c.requires.second)) c.common-else-xs-ys.ensures

pub returns-else-xs-ys-clause-says : goal.returns-else-xs-ys-clause-says
returns-else-xs-ys-clause-says c =
    IfOk-weaker c.common-else-xs-ys.result _ _ (λ set is i. ap (λ zs. has zs i) is
    ∙ has-shared_other c.args.xs.now c.args.ys.now i) c.common-else-xs-ys.ensures
