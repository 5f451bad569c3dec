-- What the records of a store mean. A store is the list of its pairs,
-- and each pair is the two children of a node.
use Rattle.std.specs.Prelude.{◌≡◌, ◌≢◌, ℕ, ◌^◌, ◌<◌, ◌≤◌, List, [], ◌∷◌, ◌++◌, length, slice_get}
use Rattle.std.specs.Prelude.{slice_index_or, Option, Some, Contains, ◌⊎◌}
use Rattle.geo_addr.specs.Bits.{bits_of}
use Rattle.trie_core.specs.declared.node.NodeId.{NodeId}
use Rattle.trie_core.specs.declared.node.Rec.{Rec}
use Rattle.trie_core.specs.declared.node.Rec.TheVariants.{Leaf, Node}
use Rattle.trie_core.specs.declared.node.Root.{Root}
use Rattle.trie_core.specs.declared.node.Pair.{Pair}
use Rattle.trie_core.specs.Tree.{Tree, leaf, node, height, look, IsPartOf}

-- the number of a node in its store
abbrev pub node_number : NodeId → ℕ
node_number id = id.0

-- the tree of a record, from the trees of the nodes
abbrev pub tree_at : List (Tree ℕ) → Rec → Tree ℕ
tree_at trees (Leaf k) = leaf k
tree_at trees (Node id) = slice_index_or trees id.0 (leaf 0)

-- the trees of more nodes, each from the trees of those before it
unfoldable pub trees_from : List (Tree ℕ) → List Pair → List (Tree ℕ)
trees_from trees [] = trees
trees_from trees (p ∷ ps) =
    trees_from (trees ++ node (tree_at trees p.left) (tree_at trees p.right) ∷ []) ps

-- the tree that a record of a store means
unfoldable pub meaning : List Pair → Rec → Tree ℕ
meaning pairs rec = tree_at (trees_from [] pairs) rec

-- the record that a root is
abbrev pub record_of : Root → Rec
record_of root = root.0

-- the tree that a root means
abbrev pub tree_of : List Pair → Root → Tree ℕ
tree_of pairs root = meaning pairs (record_of root)

-- the children of a node
abbrev pub pair_of : List Pair → NodeId → Option Pair
pair_of pairs id = slice_get pairs id.0

-- the leaf that an address has under a root
abbrev pub leaf_at : List Pair → Root → ℕ → Option ℕ
leaf_at pairs root at = look (tree_of pairs root) (bits_of 128 at)

-- a record names no node from the n-th on
abbrev pub IsBelow : ℕ → Rec → Type 0
IsBelow n (Leaf k) = Unit {0}
IsBelow n (Node id) = id.0 < n

-- a record is of this store
abbrev pub IsOf : List Pair → Rec → Type 0
IsOf pairs rec = IsBelow (length pairs) rec

-- a root is of this store
abbrev pub IsRootOf : List Pair → Root → Type 0
IsRootOf pairs root = IsOf pairs (record_of root)

-- what holds of every store: children come before their node, no node has two equal leaves,
-- no two nodes have the same children, and no leaf is deeper than an address has bits
pub record IsSound (pairs : List Pair) : Type 0 where
  pub few : length pairs < 2 ^ 32
  pub earlier : (k : ℕ) (p : Pair) → slice_get pairs k ≡ Some p
      → IsBelow k p.left × IsBelow k p.right
  pub unlike : (k : ℕ) (p : Pair) → slice_get pairs k ≡ Some p → (a : ℕ) → p.left ≡ Leaf a
      → p.right ≢ Leaf a
  pub once : (i j : ℕ) (p : Pair) → slice_get pairs i ≡ Some p → slice_get pairs j ≡ Some p → i ≡ j
  pub low : (rec : Rec) → IsOf pairs rec → height (meaning pairs rec) ≤ 128

-- at most n nodes have come to a store, behind those that it had
abbrev pub GrowsBy : List Pair → List Pair → ℕ → Type 0
GrowsBy old new n = (more : List Pair) × (new ≡ old ++ more) × (length more ≤ n)

-- each record of the old store is of the new one, and means what it meant
abbrev pub IsKept : List Pair → List Pair → Type 0
IsKept old new = (rec : Rec) → IsOf old rec → IsOf new rec × (meaning new rec ≡ meaning old rec)

-- a node with these children is neither one leaf nor held
abbrev pub NeedsNew : List Pair → Rec → Rec → Type 0
NeedsNew pairs left right =
    ((k : ℕ) → left ≡ Leaf k → right ≢ Leaf k)
    × (Contains pairs (record { left = left; right = right }) → ⊥)

-- a pair was in the list, which stayed, or was not and went last
abbrev pub IsAdded : List Pair → List Pair → Pair → Type 0
IsAdded old new pair =
    (Contains old pair × (new ≡ old)) ⊎ ((Contains old pair → ⊥) × (new ≡ old ++ pair ∷ []))

-- each node that the new store has and the old one had not stands under the record
abbrev pub AddedUnder : List Pair → List Pair → Rec → Type 0
AddedUnder old new rec =
    (id : NodeId) → length old ≤ id.0 → id.0 < length new
    → IsPartOf (meaning new (Node id)) (meaning new rec)
