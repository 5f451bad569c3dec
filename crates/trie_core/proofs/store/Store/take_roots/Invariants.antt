use Rattle.std.proofs.Common.{take}
use Rattle.trie_core.specs.Compact.{AreRootsTaken}
use Rattle.trie_core.proofs.store.Store.take_roots.Given as goal

abbrev pub invariant-loop-root : goal.invariant-loop-root
invariant-loop-root l =
    AreRootsTaken l.self l.taken.nodes.keys l.taken.pairs
    (take l.root-index l.roots) l.made.items
