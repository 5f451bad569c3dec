use Rattle.std.proofs.Common.{ap, ◌∙◌, []}
use Rattle.std.proofs.Common.{◌∷◌}
use Rattle.trie_core.specs.Store.{meaning}
use Rattle.trie_core.proofs.StoreLemmas.{meaning-leaf}
use Rattle.publish_least.proofs.PartLemmas.{below-of_leaf}
use Rattle.publish_least.proofs.part.child.Goals as goal

pub returns-in_default-clause-meaning : goal.returns-in_default-clause-meaning
returns-in_default-clause-meaning c =
    below-of_leaf (meaning c.args.store.now c.args.rec) c.in_default.field-0
    (c.args.is_upper ∷ []) (ap (meaning c.args.store.now) c.in_default.is
    ∙ meaning-leaf c.args.store.now c.in_default.field-0)
