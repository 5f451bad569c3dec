use Rattle.trie_core.proofs.RootLemmas.{OneRecord-holds}
use Rattle.trie_core.proofs.laws.equal_leaves_equal_records.Goals as goal

pub returns : goal.returns
returns c = OneRecord-holds
