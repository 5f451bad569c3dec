-- What the writer's steps give.
use Rattle.std.specs.Prelude.{◌≡◌, ◌<◌, ◌^◌, ℕ, ◌+◌, ◌==◌, Bool, List, [], ◌∷◌, map, length, max}
use Rattle.std.specs.Prelude.{slice_index, slice_index_or, nat_eq, Option, Some, if◌then◌else◌}
use Rattle.std.specs.List.{position_or_len, list_any}
use Rattle.trie_core.specs.declared.node.NodeId.{NodeId}
use Rattle.trie_core.specs.declared.node.Rec.{Rec}
use Rattle.trie_core.specs.declared.node.Rec.TheVariants.{Leaf, Node}
use Rattle.trie_core.specs.declared.node.Pair.{Pair}
use Rattle.mmdb_file.specs.declared.numbers.Numbers.{Numbers}
use Rattle.mmdb_file.specs.declared.writing.Parts.{Parts}
use Rattle.geo_terms.specs.Numbers.{place_at}
use Rattle.geo_terms.specs.PlaceForm.{PlaceParts}
use Rattle.geo_addr.specs.Bits.{bits_of}
use Rattle.trie_core.specs.declared.node.Root.{Root}
use Rattle.trie_core.specs.Tree.{Tree, map_tree}
use Rattle.trie_core.specs.Store.{leaf_at, tree_of}
use Rattle.least_nodes.specs.NodeList.{Member, at, go}
use Rattle.least_nodes.specs.Layout.{inner, place_order}
use Rattle.least_nodes.specs.Order.{AreOf, trees_of}
use Rattle.mmdb_tree.specs.Nodes.{smallest, limit}
use Rattle.mmdb_data.specs.ValueTree.{ValueTree as Value}
use Rattle.mmdb_file.specs.FileImage.{answer_value}
use Rattle.mmdb_file.specs.Section.{Section, Holds, section_of}

-- whether two nodes of a store are the same
abbrev pub same_id : NodeId → NodeId → Bool
same_id a b = a.0 == b.0

-- the number that stands for a record of the store, by the nodes and the places in order and where
-- each place's value begins
abbrev pub record_number : (count : ℕ) → List NodeId → (places starts : List ℕ) → Rec → ℕ
record_number count ids places starts (Leaf k) =
    if list_any (nat_eq k) places
    then count + 16 + slice_index starts (position_or_len (nat_eq k) places) else count
record_number count ids places starts (Node id) = position_or_len (same_id id) ids

-- the number for a record, by what a writer holds
abbrev pub number_of : Numbers → Rec → ℕ
number_of numbers =
    record_number numbers.count numbers.nodes numbers.places numbers.starts.items

-- the two numbers of a node, from those of its children
abbrev pub node_numbers : List Pair → (Rec → ℕ) → NodeId → ℕ × ℕ
node_numbers pairs number id = (
  number (slice_index_or pairs id.0 (record { left = Leaf 0; right = Leaf 0 })).left,
  number (slice_index_or pairs id.0 (record { left = Leaf 0; right = Leaf 0 })).right,
)

-- the numbers of the nodes with these ids, or of one node that leads to the root on both sides
abbrev pub nodes_from : List Pair → (Rec → ℕ) → (root : Rec) → List NodeId → List (ℕ × ℕ)
nodes_from pairs number root [] = (number root, number root) ∷ []
nodes_from pairs number root (id ∷ ids) = map (node_numbers pairs number) (id ∷ ids)

-- the tree that a root means, with the places that its leaves are the numbers of
abbrev pub place_tree : List PlaceParts → List Pair → Root → Tree (Option PlaceParts)
place_tree places pairs root = map_tree (place_at places) (tree_of pairs root)

-- a function answers at each address the place of the root's leaf
abbrev pub AnswersPlaces : List PlaceParts → List Pair → Root → (ℕ → Option PlaceParts) → Type 0
AnswersPlaces places pairs root answer =
    (address k : ℕ) → address < 2 ^ 128 → leaf_at pairs root address ≡ Some k
    → place_at places k ≡ answer address

-- the walk from the first node comes at each address to the place of the root's leaf
abbrev pub FindsPlaces : List PlaceParts → List Pair → Root
    → List (Member (Option PlaceParts) × Member (Option PlaceParts)) → Type 0
FindsPlaces places pairs root nodes =
    (address k : ℕ) → address < 2 ^ 128 → leaf_at pairs root address ≡ Some k
    → go nodes (at 0) (bits_of 128 address) ≡ Some (place_at places k)

-- how many nodes are written for a tree: its different nodes, and one where it is a leaf
abbrev pub count_for : Tree ℕ → ℕ
count_for t = max (length (inner nat_eq t)) 1

-- the values of the places with these numbers
abbrev pub values_of : List PlaceParts → List ℕ → List Value
values_of places numbers = map (λ k. answer_value (place_at places k)) numbers

-- the data section that is written for a tree of place numbers
abbrev pub section_for : List PlaceParts → Tree ℕ → Section
section_for places t = section_of (values_of places (place_order t))

-- no record is above this number
abbrev pub end_for : List PlaceParts → Tree ℕ → ℕ
end_for places t = count_for t + 16 + length (section_for places t).bytes

-- what the file of a tree of place numbers is written from: the nodes and the places in the order
-- of the tree, the section of the places, and records that hold every number
pub record AreParts (pairs : List Pair) (places : List PlaceParts) (t : Tree ℕ)
    (parts : Parts) : Type 0 where
  pub count : parts.numbers.count ≡ count_for t
  pub of : AreOf pairs parts.numbers.nodes
  pub nodes : trees_of pairs parts.numbers.nodes ≡ inner nat_eq t
  pub leaves : parts.numbers.places ≡ place_order t
  pub starts : parts.numbers.starts.items ≡ (section_for places t).starts
  pub section : parts.section.bytes ≡ (section_for places t).bytes
  pub holds : Holds (section_for places t) (values_of places (place_order t))
  pub bits : smallest (end_for places t) ≡ Some parts.bits
  pub low : end_for places t < limit parts.bits
