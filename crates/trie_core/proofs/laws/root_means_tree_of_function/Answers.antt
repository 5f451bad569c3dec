use Rattle.trie_core.proofs.RootLemmas.{MeansFunction-holds}
use Rattle.trie_core.proofs.laws.root_means_tree_of_function.Goals as goal

pub returns : goal.returns
returns c = MeansFunction-holds
