use Rattle.std.proofs.Common.{◌+◌, ◌*◌}
use Rattle.trie_core.specs.declared.node.Rec.TheVariants.{Node}
use Rattle.trie_core.specs.Tree.{height}
use Rattle.trie_core.specs.Store.{meaning}
use Rattle.least_nodes.proofs.layout.+walk.Given as goal

abbrev pub decreases-visit : goal.decreases-visit
decreases-visit l = 2 * height (meaning l.store.now l.rec) + 1

abbrev pub decreases-visit_children : goal.decreases-visit_children
decreases-visit_children l = 2 * height (meaning l.store.now (Node l.id))
