use Rattle.trie_core.proofs.TreeLemmas.{Canonical-holds}
use Rattle.trie_core.proofs.laws.equal_lookups_equal_trees.Goals as goal

pub returns : goal.returns
returns g c = Canonical-holds
