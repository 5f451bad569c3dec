use Rattle.std.proofs.Common.{◌∙◌}
use Rattle.std.proofs.lemmas.List.Sorted.{searched}
use Rattle.publish_least.proofs.SetLemmas.{has-found}
use Rattle.publish_least.proofs.set.is_in.Goals as goal

pub returns : goal.returns
returns c =
    c.is_ok.ensures.value
    ∙ has-found c.args.set.now c.args.at c.binary_search.result
    (searched c.args.set.now c.args.at c.binary_search.result c.binary_search.ensures.position
    (λ i j order within. c.requires i j 0 order within))
