-- The children of a node are lower trees.
use Rattle.trie_core.specs.Tree.{height}
use Rattle.trie_core.specs.Store.{meaning}
use Rattle.publish_least.proofs.memo.Memo.+learn.Given as goal

abbrev pub decreases-learn : goal.decreases-learn
decreases-learn l = height (meaning l.store.now l.rec)
