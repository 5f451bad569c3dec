-- A tree that was written node by node, read at one of its nodes.
use Rattle.std.proofs.Common.{◌≡◌, ℕ, zero, suc, ◌+◌, ◌*◌, Bool, true, false, List, [], ◌∷◌, ◌++◌}
use Rattle.std.proofs.Common.{length, drop, refl, append_assoc, arith}
use Rattle.std.proofs.Math.Seq.{drop-append-add}
use Rattle.std.proofs.Math.Nat.{suc-mul, zero-mul}
use Rattle.mmdb_tree.specs.declared.bits.Bits.{Bits}
use Rattle.mmdb_tree.specs.declared.bits.Bits.TheVariants.{B24, B28, B32}
use Rattle.mmdb_tree.specs.Nodes.{width, node_bytes, record_in, node_record, tree_bytes}
use Rattle.mmdb_tree.specs.Laws.{NodeFits, NodeReadsBack, ValueReadsBack, record_of}

pub length-node_bytes : (bits : Bits) (left right : ℕ)
    → length (node_bytes bits left right) ≡ width bits
length-node_bytes B24 left right = refl
length-node_bytes B28 left right = refl
length-node_bytes B32 left right = refl

one_node : NodeReadsBack
    → (bits : Bits) (node : ℕ × ℕ) (after : List ℕ) → NodeFits bits node → (right : Bool)
    → record_in bits (node_bytes bits node.0 node.1 ++ after) right ≡ record_of right node
one_node law bits node after fits false = (law bits node.0 node.1 after fits.0 fits.1).0
one_node law bits node after fits true = (law bits node.0 node.1 after fits.0 fits.1).1

pub any_node : NodeReadsBack → ValueReadsBack
unfolding node_record
any_node law bits [] after fit n below right = absurd (omega arith)
any_node law bits (node ∷ nodes) after fit zero below right =
    rw (
      append_assoc,
      zero-mul,
    ) (one_node law bits node (tree_bytes bits nodes ++ after) (fit 0 (omega arith)) right)
any_node law bits (node ∷ nodes) after fit (suc n) below right =
    let long = length-node_bytes bits node.0 node.1 in
    let total : suc n * width bits ≡ length (node_bytes bits node.0 node.1) + n * width bits =
    rw (suc-mul, long) (omega arith) in
    let moved : drop (suc n * width bits) ((node_bytes bits node.0 node.1 ++ tree_bytes bits nodes)
    ++ after) ≡ drop (n * width bits) (tree_bytes bits nodes ++ after) =
    rw (total, append_assoc, drop-append-add) refl in
    rw moved
    (any_node law bits nodes after (λ k h. fit (suc k) (omega arith)) n (omega arith) right)
