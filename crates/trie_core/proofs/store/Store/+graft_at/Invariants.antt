use Rattle.trie_core.proofs.store.Store.+graft_at.Given as goal

abbrev pub decreases-graft_at : goal.decreases-graft_at
decreases-graft_at g l = l.bits
