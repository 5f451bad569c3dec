use Rattle.trie_core.proofs.StoreLemmas.{meaning-leaf}
use Rattle.trie_core.proofs.store.Store.empty.Goals as goal

pub returns-clause-tree : goal.returns-clause-tree
returns-clause-tree c = meaning-leaf c.args.self.now 0
