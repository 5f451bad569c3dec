use Rattle.trie_core.proofs.TreeLemmas.{TreeOfFunction-holds}
use Rattle.trie_core.proofs.laws.tree_answers_function.Goals as goal

pub returns : goal.returns
returns g c = TreeOfFunction-holds
