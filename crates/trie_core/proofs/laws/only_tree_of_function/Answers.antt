use Rattle.trie_core.proofs.TreeLemmas.{OnlyTree-holds}
use Rattle.trie_core.proofs.laws.only_tree_of_function.Goals as goal

pub returns : goal.returns
returns g c = OnlyTree-holds
