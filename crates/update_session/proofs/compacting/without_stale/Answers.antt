use Rattle.std.proofs.lemmas.List.Elements.{recursion_from_All}
use Rattle.trie_core.specs.Store.{IsRootOf}
use Rattle.update_session.proofs.CompactLemmas.{nodes_counted}
use Rattle.update_session.proofs.compacting.without_stale.Goals as goal

pub returns-clause-nodes : goal.returns-clause-nodes
returns-clause-nodes c = λ bases answers.
    nodes_counted c.args.store.now c.len.ensures.sound c.args.places.now c.len-2.ensures.distinct
    c.in_ok-made.made.0 c.args.roots.now bases
    c.in_ok-made.ensures.sound c.in_ok-made.ensures.exact
    (recursion_from_All (IsRootOf c.args.store.now) c.args.roots.now c.requires.of) answers
