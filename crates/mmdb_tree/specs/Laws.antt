-- What is read of nodes that were written.
use Rattle.std.specs.Prelude.{◌≡◌, ◌<◌, ℕ, Bool, true, false, cond, List, ◌++◌, length}
use Rattle.std.specs.Prelude.{slice_index_or}
use Rattle.mmdb_tree.specs.declared.bits.Bits.{Bits}
use Rattle.mmdb_tree.specs.Nodes.{limit, node_bytes, record_in, node_record, tree_bytes}

-- both records fit
abbrev pub NodeFits : Bits → ℕ × ℕ → Type 0
NodeFits bits node = (node.0 < limit bits) × (node.1 < limit bits)

-- the left record, or for `true` the right one
abbrev pub record_of : Bool → ℕ × ℕ → ℕ
record_of right node = cond right node.1 node.0

-- a node that was written is read back, whatever follows it
abbrev pub NodeReadsBack : Type 0
NodeReadsBack =
    (bits : Bits) (left right : ℕ) (after : List ℕ) → left < limit bits → right < limit bits
    → (record_in bits (node_bytes bits left right ++ after) false ≡ left)
    × (record_in bits (node_bytes bits left right ++ after) true ≡ right)

-- each node of a tree that was written is read back, whatever follows the tree
abbrev pub ValueReadsBack : Type 0
ValueReadsBack =
    (bits : Bits) (nodes : List (ℕ × ℕ)) (after : List ℕ)
    → ((k : ℕ) → k < length nodes → NodeFits bits (slice_index_or nodes k (0, 0)))
    → (n : ℕ) → n < length nodes → (right : Bool) → node_record bits
    (tree_bytes bits nodes ++ after) n right ≡ record_of right (slice_index_or nodes n (0, 0))
