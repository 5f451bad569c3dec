use Rattle.trie_core.proofs.StoreLemmas.{IsSound-nil}
use Rattle.trie_core.proofs.store.Store.new.Goals as goal

pub invariant_of-result : goal.invariant_of-result
invariant_of-result c = rw (c.new.ensures) IsSound-nil
