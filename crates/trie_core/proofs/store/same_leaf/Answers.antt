use Rattle.std.proofs.Common.{rules}
use Rattle.trie_core.proofs.store.same_leaf.Goals as goal

pub returns-in_default : goal.returns-in_default
returns-in_default c = search rules steps 1000000
