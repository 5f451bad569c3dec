-- What a walk through a store has come to, as trees and places.
use Rattle.std.specs.Prelude.{◌≡◌, ◌≢◌, ℕ, ◌≤◌, Bool, List, [], ◌∷◌, ◌++◌, map, filter, nat_eq}
use Rattle.std.specs.Prelude.{Contains, All, MatchBool}
use Rattle.std.specs.List.{position_or_len}
use Rattle.trie_core.specs.declared.node.NodeId.{NodeId}
use Rattle.trie_core.specs.declared.node.Rec.{Rec}
use Rattle.trie_core.specs.declared.node.Rec.TheVariants.{Leaf, Node}
use Rattle.trie_core.specs.declared.node.Pair.{Pair}
use Rattle.trie_core.specs.Tree.{Tree, height, tree_eq}
use Rattle.trie_core.specs.Store.{meaning, IsOf}
use Rattle.least_nodes.specs.NodeList.{Member, at, says}
use Rattle.least_nodes.specs.Layout.{each_once, preorder, leaves, is_place}

-- the trees that these nodes of a store mean
abbrev pub trees_of : List Pair → List NodeId → List (Tree ℕ)
trees_of pairs ids = map (λ id. meaning pairs (Node id)) ids

-- these are nodes of the store
abbrev pub AreOf : List Pair → List NodeId → Type 0
AreOf pairs ids = All (λ id. IsOf pairs (Node id)) ids

-- the nodes that were seen, after a walk through a tree
abbrev pub nodes_after : List (Tree ℕ) → Tree ℕ → List (Tree ℕ)
nodes_after seen t = each_once (tree_eq nat_eq) seen (preorder t)

-- the places that were seen, after a walk through a tree
abbrev pub places_after : List ℕ → Tree ℕ → List ℕ
places_after seen t = each_once nat_eq seen (filter is_place (leaves t))

-- a walk through a seen node of at most this height would add nothing
abbrev pub IsDoneBelow : ℕ → List (Tree ℕ) → List ℕ → Type 0
IsDoneBelow n nodes places =
    (t : Tree ℕ) → Contains nodes t → height t ≤ n
    → (nodes_after nodes t ≡ nodes) × (places_after places t ≡ places)

-- a node went behind those that were seen, unless it was among them
abbrev pub IsNoted : List NodeId → List NodeId → NodeId → Bool → Type 0
IsNoted old new id is_new =
    MatchBool is_new ((Contains old id → ⊥) × (new ≡ old ++ id ∷ []))
    (Contains old id × (new ≡ old))

-- two numbers of one node
abbrev pub same_node : NodeId → NodeId → Bool
same_node id other = nat_eq id.0 other.0

-- a store's record in a list of nodes: its leaf, or the position of its node
abbrev pub record_in : List NodeId → Rec → Member ℕ
record_in ids (Leaf number) = says number
record_in ids (Node id) = at (position_or_len (same_node id) ids)

-- a record leads to a listed node, or is a listed place or none
abbrev pub IsListed : List NodeId → List ℕ → Rec → Type 0
IsListed ids places (Leaf number) = number ≢ 0 → Contains places number
IsListed ids places (Node id) = Contains ids id
