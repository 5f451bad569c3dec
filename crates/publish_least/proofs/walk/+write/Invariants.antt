-- The children of a node are lower trees.
use Rattle.trie_core.specs.Tree.{height}
use Rattle.trie_core.specs.Store.{meaning}
use Rattle.publish_least.proofs.walk.+write.Given as goal

abbrev pub decreases-write : goal.decreases-write
decreases-write l = height (meaning l.store.now l.rec)
