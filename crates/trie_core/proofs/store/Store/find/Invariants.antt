use Rattle.std.proofs.Common.{◌≡◌, ◌≤◌}
use Rattle.geo_addr.specs.Bits.{bits_of}
use Rattle.trie_core.specs.Tree.{height, look}
use Rattle.trie_core.specs.Store.{meaning, leaf_at, IsOf}
use Rattle.trie_core.proofs.store.Store.find.Given as goal

abbrev pub invariant-loop-rec : goal.invariant-loop-rec
invariant-loop-rec l = record {
  of : IsOf l.self l.rec;
  low : height (meaning l.self l.rec) ≤ l.bits;
  bits : l.bits ≤ 128;
  same : look (meaning l.self l.rec) (bits_of l.bits l.at.0) ≡ leaf_at l.self l.fn.root l.at.0;
}

abbrev pub decreases-loop-rec : goal.decreases-loop-rec
decreases-loop-rec l = l.bits
