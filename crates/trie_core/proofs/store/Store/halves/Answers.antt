use Rattle.trie_core.proofs.PaintLemmas.{IsHalved-leaf}
use Rattle.trie_core.proofs.store.Store.halves.Goals as goal

pub returns-in-Leaf : goal.returns-in-Leaf
returns-in-Leaf c = rw (c.in-Leaf.is) (IsHalved-leaf c.args.self.now c.in-Leaf.field-0)
