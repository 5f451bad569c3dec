use Rattle.std.proofs.Common.{◌≡◌, ◌≤◌}
use Rattle.geo_addr.specs.Bits.{bits_of}
use Rattle.mmdb_tree.specs.Nodes.{node_record}
use Rattle.mmdb_file.specs.Walk.{seek}
use Rattle.mmdb_file.proofs.adopted.Mmdb.seek.Given as goal

abbrev pub invariant-loop-record : goal.invariant-loop-record
invariant-loop-record l = record {
  few : l.left ≤ 128;
  same : seek (node_record l.self-inside.bits l.self-inside.tree.now) l.self-inside.nodes l.«record»
      (bits_of l.left l.at.0)
      ≡ seek (node_record l.self-inside.bits l.self-inside.tree.now) l.self-inside.nodes 0
      (bits_of 128 l.at.0);
}

abbrev pub decreases-loop-record : goal.decreases-loop-record
decreases-loop-record l = l.left
