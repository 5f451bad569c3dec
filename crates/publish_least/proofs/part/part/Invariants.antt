-- The record to which the bits so far lead.
use Rattle.std.proofs.Common.{◌≡◌, ◌-◌, ◌/◌, ◌^◌}
use Rattle.geo_addr.specs.Bits.{bits_of}
use Rattle.trie_core.specs.Store.{meaning, tree_of, IsOf}
use Rattle.least_nodes.specs.Layout.{below}
use Rattle.publish_least.proofs.part.part.Given as goal

abbrev pub invariant-loop-depth : goal.invariant-loop-depth
invariant-loop-depth l = record {
  of : IsOf l.store l.rec;
  same : meaning l.store l.rec
      ≡ below (tree_of l.store l.fn.root) (bits_of l.depth (l.first / 2 ^ (128 - l.depth)));
}
