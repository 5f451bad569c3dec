-- The laws of the least tree, for every height and over every kind of leaf.
use Rattle.std.specs.Prelude.{◌≡◌, ℕ, ◌^◌, ◌<◌, ◌≤◌, Bool, List, [], ◌∷◌, map, length, Some, nat_eq}
use Rattle.geo_addr.specs.Bits.{bits_of}
use Rattle.trie_core.specs.declared.node.Root.{Root}
use Rattle.trie_core.specs.declared.node.Pair.{Pair}
use Rattle.trie_core.specs.Tree.{Tree, look, tree, HasLeaf, map_tree}
use Rattle.trie_core.specs.Laws.{IsReducedWithin, IsEquality}
use Rattle.trie_core.specs.Store.{tree_of, leaf_at, IsRootOf}
use Rattle.trie_core.specs.Compact.{HoldsExactly}
use Rattle.least_nodes.specs.NodeList.{Member, at, go, reached, map_pair}
use Rattle.least_nodes.specs.Layout.{below, IsNode, inner, leaf_order, laid}

-- the walk from the first node answers as the tree does, along each list of n bits
abbrev pub HasLookups : {A : Type 0} → ℕ → List (Member A × Member A) → Tree A → Type 0
HasLookups n nodes t = (w : List Bool) → length w ≡ n → go nodes (at 0) w ≡ look t w

-- the walk from the first node answers a function at each address of n bits
abbrev pub Finds : {A : Type 0} → ℕ → List (Member A × Member A) → (ℕ → A) → Type 0
Finds n nodes f = (a : ℕ) → a < 2 ^ n → go nodes (at 0) (bits_of n a) ≡ Some (f a)

-- the bits that lead to a node of the tree lead to a position of the list,
-- and two that lead to one position lead to equal nodes of the tree
pub record StandApart {A : Type 0} (nodes : List (Member A × Member A)) (t : Tree A) : Type 0 where
  pub stands : (p : List Bool)
      → IsNode (below t p) → (i : ℕ) × (reached nodes (at 0) p ≡ at i) × (i < length nodes)
  pub apart : (p q : List Bool) → IsNode (below t p) → IsNode (below t q)
      → reached nodes (at 0) p ≡ reached nodes (at 0) q → below t p ≡ below t q

-- distinct subtrees need distinct nodes
abbrev pub Apart : Type 0 → Type 0
Apart A =
    (n : ℕ) (t : Tree A) (nodes : List (Member A × Member A)) → IsReducedWithin n t
    → HasLookups n nodes t → StandApart nodes t

-- no list of nodes with this tree's lookups has fewer nodes than this
abbrev pub IsFewest : {A : Type 0} → ℕ → Tree A → ℕ → Type 0
IsFewest {A} n t fewest =
    (nodes : List (Member A × Member A)) → HasLookups n nodes t → fewest ≤ length nodes

-- no list of nodes with a reduced tree's lookups is shorter than the list of its different nodes
abbrev pub Least : Type 0 → Type 0
Least A =
    (eq : A → A → Bool) → IsEquality eq → (n : ℕ) (t : Tree A) → IsReducedWithin n t
    → IsFewest n t (length (inner eq t))

-- no list of nodes that answers a function is shorter than the list of the
-- different nodes of the function's tree
abbrev pub LeastFor : Type 0 → Type 0
LeastFor A =
    (eq : A → A → Bool) → IsEquality eq → (f : ℕ → A) (n : ℕ) (nodes : List (Member A × Member A))
    → Finds n nodes f → length (inner eq (tree eq f n 0)) ≤ length nodes

-- the nodes that are written for a tree answer as the tree does
abbrev pub LaidOut : Type 0 → Type 0
LaidOut A =
    (eq : A → A → Bool) → IsEquality eq
    → (t : Tree A) (b : Bool) (w : List Bool) → go (laid eq t) (at 0) (b ∷ w) ≡ look t (b ∷ w)

-- a renaming that gives different leaves of the tree different names keeps its layout
abbrev pub RenamedLayout : Type 0 → Type 0 → Type 0
RenamedLayout A B =
    (eq : A → A → Bool) → IsEquality eq → (eq' : B → B → Bool) → IsEquality eq'
    → (f : A → B) (t : Tree A) → ((a b : A) → HasLeaf t a → HasLeaf t b → f a ≡ f b → a ≡ b)
    → (laid eq' (map_tree f t) ≡ map (map_pair f) (laid eq t))
    × (leaf_order eq' (map_tree f t) ≡ map f (leaf_order eq t))
    × (length (inner eq' (map_tree f t)) ≡ length (inner eq t))

-- a store holds the nodes under the root and no other
abbrev pub IsCompact : List Pair → Root → Type 0
IsCompact pairs root = HoldsExactly pairs (tree_of pairs root ∷ [])

-- a store with no other nodes than those under a root has as many as are laid out
abbrev pub CompactLength : List Pair → Type 0
CompactLength pairs =
    (root : Root) → IsRootOf pairs root → IsCompact pairs root
    → length pairs ≡ length (inner nat_eq (tree_of pairs root))

-- roots of two stores that have the same leaf at each address mean one tree
abbrev pub OneTree : List Pair → List Pair → Type 0
OneTree one two =
    (r s : Root) → IsRootOf one r → IsRootOf two s
    → ((a : ℕ) → a < 2 ^ 128 → leaf_at one r a ≡ leaf_at two s a) → tree_of one r ≡ tree_of two s
