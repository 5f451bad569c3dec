use Rattle.trie_core.proofs.StoreLemmas.{children_of, meaning_node}
use Rattle.trie_core.proofs.store.Store.children.Goals as goal

pub returns-clause-of : goal.returns-clause-of
returns-clause-of c =
    rw (← c.self.view_is) (children_of _ c.self.invariant.earlier _ _ c.at-pair.ensures)

pub returns-clause-meaning : goal.returns-clause-meaning
returns-clause-meaning c =
    rw (← c.self.view_is) (meaning_node _ c.self.invariant.earlier _ _ c.at-pair.ensures)
