use Rattle.trie_core.proofs.RenameLemmas.{Renamed-holds}
use Rattle.trie_core.proofs.laws.renamed_tree_is_reduced.Goals as goal

pub returns : goal.returns
returns g c = Renamed-holds _ _
