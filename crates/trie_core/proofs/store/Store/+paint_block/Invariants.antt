use Rattle.trie_core.proofs.store.Store.+paint_block.Given as goal

abbrev pub decreases-paint_block : goal.decreases-paint_block
decreases-paint_block g l = l.bits
