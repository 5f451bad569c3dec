use Rattle.trie_core.specs.Tree.{height}
use Rattle.trie_core.specs.Store.{meaning}
use Rattle.trie_core.proofs.store.Store.+take.Given as goal

abbrev pub decreases-take : goal.decreases-take
decreases-take l = height (meaning l.self.now l.rec)
