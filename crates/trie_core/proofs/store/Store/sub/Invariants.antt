use Rattle.std.proofs.Common.{◌≡◌, ◌-◌, ◌≤◌, take}
use Rattle.geo_addr.specs.Bits.{bits_of}
use Rattle.trie_core.specs.Tree.{height}
use Rattle.trie_core.specs.Store.{meaning, tree_of, IsOf}
use Rattle.trie_core.specs.Graft.{way_of, sub}
use Rattle.trie_core.proofs.store.Store.sub.Given as goal

abbrev pub invariant-loop-bits : goal.invariant-loop-bits
invariant-loop-bits l = record {
  of : IsOf l.self l.rec;
  low : height (meaning l.self l.rec) ≤ l.bits;
  bits : l.bits ≤ 128;
  below : l.below ≤ l.bits;
  same : sub (meaning l.self l.rec) (take (l.bits - l.below) (bits_of l.bits l.block-inside.first))
      ≡ sub (tree_of l.self l.fn.root) (way_of l.fn.block);
}

abbrev pub decreases-loop-bits : goal.decreases-loop-bits
decreases-loop-bits l = l.bits - l.below
