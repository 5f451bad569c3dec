use Rattle.std.proofs.Common.{◌≡◌, ◌++◌, drop}
use Rattle.std.proofs.Common.{map as map_list}
use Rattle.mmdb_tree.specs.Nodes.{tree_bytes}
use Rattle.mmdb_file.specs.Writing.{number_of, node_numbers}
use Rattle.mmdb_file.proofs.nodes.push_inner.Given as goal

abbrev pub invariant-loop-id : goal.invariant-loop-id
invariant-loop-id l =
    l.tree.items ++ tree_bytes l.bits
    (map_list (node_numbers l.store (number_of l.numbers)) (drop l.id-index l.ids))
    ≡ l.fn.tree.items ++ tree_bytes l.bits
    (map_list (node_numbers l.store (number_of l.numbers)) l.ids)
