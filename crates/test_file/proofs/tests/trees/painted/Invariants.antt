use Rattle.trie_core.specs.Store.{IsRootOf}
use Rattle.test_file.proofs.tests.trees.painted.Given as goal

abbrev pub invariant-loop-first : goal.invariant-loop-first
invariant-loop-first g l = IsRootOf l.store l.root
