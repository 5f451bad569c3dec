-- Nodes of the search tree as bytes (MaxMind DB 2.0, "Binary Search Tree Section").
use Rattle.std.specs.Prelude.{ℕ, ◌+◌, ◌*◌, ◌/◌, ◌%◌, ◌^◌, Bool, true, false, List, []}
use Rattle.std.specs.Prelude.{◌∷◌, ◌++◌, slice_index, drop, Option, Some, None, nat_lt}
use Rattle.std.specs.Prelude.{if◌then◌else◌}
use Rattle.std.specs.Int.{bytes_high_first}
use Rattle.byteorder.specs.Endian.{big_from}
use Rattle.mmdb_tree.specs.declared.bits.Bits.{Bits}
use Rattle.mmdb_tree.specs.declared.bits.Bits.TheVariants.{B24, B28, B32}

-- the bits of a record, of which a node has two
abbrev pub record_size : Bits → ℕ
record_size B24 = 24
record_size B28 = 28
record_size B32 = 32

-- the bytes of a node
abbrev pub width : Bits → ℕ
width B24 = 6
width B28 = 7
width B32 = 8

-- records are below this number
abbrev pub limit : Bits → ℕ
limit B24 = 2 ^ 24
limit B28 = 2 ^ 28
limit B32 = 2 ^ 32

-- a node with the records `left` and `right`; in 28-bit nodes the fourth byte has the top four bits
-- of `left` in its high half and those of `right` in its low half
abbrev pub node_bytes : Bits → ℕ → ℕ → List ℕ
node_bytes B24 left right = bytes_high_first 3 left ++ bytes_high_first 3 right
node_bytes B28 left right =
    bytes_high_first 3 left ++ (left / 2 ^ 24 * 16 + right / 2 ^ 24) ∷ bytes_high_first 3 right
node_bytes B32 left right = bytes_high_first 4 left ++ bytes_high_first 4 right

-- the left record, or for `true` the right one, of the node with which the bytes begin
abbrev pub record_in : Bits → List ℕ → Bool → ℕ
record_in B24 bytes false = big_from 0 3 bytes
record_in B24 bytes true = big_from 3 3 bytes
record_in B28 bytes false = slice_index bytes 3 / 16 * 2 ^ 24 + big_from 0 3 bytes
record_in B28 bytes true = slice_index bytes 3 % 16 * 2 ^ 24 + big_from 4 3 bytes
record_in B32 bytes false = big_from 0 4 bytes
record_in B32 bytes true = big_from 4 4 bytes

-- the left or right record of node n of a tree
unfoldable pub node_record : Bits → List ℕ → ℕ → Bool → ℕ
node_record bits tree n side = record_in bits (drop (n * width bits) tree) side

-- the bytes of nodes that are given by their records, in order
abbrev pub tree_bytes : Bits → List (ℕ × ℕ) → List ℕ
tree_bytes bits [] = []
tree_bytes bits (node ∷ nodes) = node_bytes bits node.0 node.1 ++ tree_bytes bits nodes

-- the smallest size whose records hold the number, or none where no size does
abbrev pub smallest : ℕ → Option Bits
smallest n =
    if nat_lt n (limit B24) then Some B24 else if nat_lt n (limit B28) then Some B28
    else if nat_lt n (limit B32) then Some B32 else None
